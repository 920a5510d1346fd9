-- Runs of the machine, one step after another, with the bytes that they read and write.
use Rattle.std.specs.Prelude.{◌≡◌, ℕ, zero, suc, ◌<◌, ◌≤◌, ◌⊎◌, ◌^◌, ◌-◌, List, [], ◌∷◌, ◌++◌, Option, Bool, false, IsTrue, ⊤, if◌then◌else◌}
use Rattle.std.specs.Io.KnownBytes.{append_known, Consumes, Appends}
use Rattle.bk_base.specs.Devices.{Begins}
use Rattle.bk_base.specs.declared.device.ByteIn as reader
use Rattle.bk_base.specs.declared.device.ByteOut as writer
use Rattle.bk_base.specs.declared.run_end.End.{End}
use Rattle.bk_base.specs.declared.run_end.End.TheVariants.{Status, DivideByZero, StoreLimit, StepLimit, BadOperation, ReadFault, WriteFault}
use Rattle.bk_machine.specs.declared.registers.Registers.{Registers}
use Rattle.bk_machine.specs.declared.output.Output.{Output}
use Rattle.bk_machine.specs.Output.{output_text}
use Rattle.bk_machine.specs.Step.{Turn, Goes, Outputs, Asks, Ends, step}

-- Where a run is: the machine, the input left and the output so far; or its end.
pub data Standing : Type 0 where
  Going : (store : List ℕ) (r : Registers) (input output : List ℕ) → Standing
  Over : (e : End) (input output : List ℕ) → Standing

-- RDCH gives the next byte, or -1 at the end.
abbrev pub next_byte : List ℕ → ℕ
next_byte [] = 2 ^ 32 - 1
next_byte (b ∷ rest) = b

abbrev pub after_next : List ℕ → List ℕ
after_next [] = []
after_next (b ∷ rest) = rest

-- Where a run goes on from a turn. What a routine wrote before it led outside the store remains.
abbrev pub after : (List ℕ → Registers → List ℕ → List ℕ → Standing) → Turn → List ℕ → List ℕ → Standing
after go (Goes store r) input written = go store r input written
after go (Outputs what store r) input written =
    let text = output_text store what in
    if text.whole then go store r input (written ++ text.bytes) else Over StoreLimit input (written ++ text.bytes)
after go (Asks store r) input written = go store (record r { a = next_byte input }) (after_next input) written
after go (Ends e) input written = Over e input written

-- n steps, or fewer where the run ends
abbrev pub run : ℕ → List ℕ → Registers → List ℕ → List ℕ → Standing
run zero store r input written = Going store r input written
run (suc n) store r input written = after (run n) (step store r) input written

-- what was written
abbrev pub output_of : Standing → List ℕ
output_of (Going store r input written) = written
output_of (Over e input written) = written

-- What devices report at a moment: the bytes left, those of them that the reader holds, and whether the end was reported; the bytes
-- taken, and those of them that were passed on.
pub record Devices : Type 0 where
  pub left : Option (List ℕ)
  pub held : List ℕ
  pub ended : Bool
  pub taken : Option (List ℕ)
  pub passed : Option (List ℕ)

abbrev pub devices : {I O : Type 0} → reader.Ghosts I → writer.Ghosts O → I → O → Devices
devices i o input out = record { left = i.left input; held = i.held input; ended = i.ended input; taken = o.taken out; passed = o.passed out }

-- Between two moments these bytes were delivered and these taken. Once the end was reported nothing more is delivered.
pub record Exchanged (old new : Devices) (read written : List ℕ) : Type 0 where
  pub delivered : Consumes old.left new.left read
  pub took : Appends old.taken new.taken written
  pub stays : IsTrue old.ended → (read ≡ []) × IsTrue new.ended

-- Whatever may follow the bytes delivered: nothing, where the end was reported.
abbrev pub Follows : Devices → List ℕ → Type 0
Follows new rest = IsTrue new.ended → rest ≡ []

-- n steps lead from one machine to another by these bytes, whatever input follows and whatever was written before
abbrev pub Leads : ℕ → List ℕ → Registers → List ℕ → Registers → Devices → List ℕ → List ℕ → Type 0
Leads n store r store' r' new read written =
    (rest before : List ℕ) → Follows new rest → run n store r (read ++ rest) before ≡ Going store' r' rest (before ++ written)

-- A reader of this type can hold these bytes, given what each holds.
abbrev pub HeldBy : {I : Type 0} → (I → List ℕ) → List ℕ → Type 0
HeldBy {I} held bytes = (reader : I) × (held reader ≡ bytes)

-- These bytes were held, and the end was not reported anew, as where the reader did not ask its device.
abbrev pub NotAsked : Devices → Devices → List ℕ → Type 0
NotAsked old new read = (old.held ≡ read ++ new.held) × (new.ended ≡ old.ended)

-- The reader asked its device, and these bytes were read since: none, where the device reported the end or failed; else the byte
-- that was asked for, and then bytes that the reader held. Holds says what a reader can hold.
abbrev pub SinceAsk : (List ℕ → Type 0) → Devices → List ℕ → Type 0
SinceAsk Holds new [] = new.held ≡ []
SinceAsk Holds new (byte ∷ others) = Holds (others ++ new.held) × (new.ended ≡ false)

-- Fewer than n steps lead to a step that asks for a byte, by these bytes, whatever input follows.
pub record LeadsToAsk (n : ℕ) (store : List ℕ) (r : Registers) (read written : List ℕ) : Type 0 where
  pub steps : ℕ
  pub within : steps < n
  pub store' : List ℕ
  pub r' : Registers
  pub leads : (rest before : List ℕ) → run steps store r (read ++ rest) before ≡ Going store' r' rest (before ++ written)
  pub store'' : List ℕ
  pub r'' : Registers
  pub asks : step store' r' ≡ Asks store'' r''

-- The reader last asked its device at this step, before the end was reported. All that was written before the step was passed on.
pub record LastAsk (Holds : List ℕ → Type 0) (n : ℕ) (store : List ℕ) (r : Registers) (old new : Devices) (read : List ℕ) : Type 0 where
  pub earlier : List ℕ
  pub since : List ℕ
  pub parts : read ≡ earlier ++ since
  pub written : List ℕ
  pub leads : LeadsToAsk n store r earlier written
  pub unended : old.ended ≡ false
  pub asked : SinceAsk Holds new since
  pub passed : Begins (append_known old.taken written) new.passed

-- All that was written before the reader last asked its device, and was given a byte or the end, was passed on.
abbrev pub FlushesFirst : (List ℕ → Type 0) → ℕ → List ℕ → Registers → Devices → Devices → List ℕ → Type 0
FlushesFirst Holds n store r old new read = NotAsked old new read ⊎ LastAsk Holds n store r old new read

-- all steps were done
pub record Paused (Holds : List ℕ → Type 0) (n : ℕ) (store : List ℕ) (r : Registers) (store' : List ℕ) (r' : Registers) (old new : Devices) : Type 0 where
  pub read : List ℕ
  pub written : List ℕ
  pub exchanged : Exchanged old new read written
  pub flushes : FlushesFirst Holds n store r old new read
  pub leads : Leads n store r store' r' new read written

-- the run ended of itself, within n steps
pub record Finished (Holds : List ℕ → Type 0) (e : End) (n : ℕ) (store : List ℕ) (r : Registers) (old new : Devices) : Type 0 where
  pub read : List ℕ
  pub written : List ℕ
  pub exchanged : Exchanged old new read written
  pub flushes : FlushesFirst Holds n store r old new read
  pub ends : (rest before : List ℕ) → Follows new rest → run n store r (read ++ rest) before ≡ Over e rest (before ++ written)

-- The run came to a step that asks for a byte, by these bytes and no more.
pub record Waiting (Holds : List ℕ → Type 0) (n : ℕ) (store : List ℕ) (r : Registers) (old new : Devices) : Type 0 where
  pub read : List ℕ
  pub written : List ℕ
  pub exchanged : Exchanged old new read written
  pub flushes : FlushesFirst Holds n store r old new read
  pub steps : ℕ
  pub store' : List ℕ
  pub r' : Registers
  pub within : steps < n
  pub leads : Leads steps store r store' r' new read written
  pub store'' : List ℕ
  pub r'' : Registers
  pub asks : step store' r' ≡ Asks store'' r''

-- The run came to a step that writes a text, of which a beginning was taken.
pub record CutShort (Holds : List ℕ → Type 0) (n : ℕ) (store : List ℕ) (r : Registers) (old new : Devices) : Type 0 where
  pub read : List ℕ
  pub written : List ℕ
  pub begun : List ℕ
  pub exchanged : Exchanged old new read (written ++ begun)
  pub flushes : FlushesFirst Holds n store r old new read
  pub steps : ℕ
  pub store' : List ℕ
  pub r' : Registers
  pub within : steps < n
  pub leads : Leads steps store r store' r' new read written
  pub what : Output
  pub store'' : List ℕ
  pub r'' : Registers
  pub tells : step store' r' ≡ Outputs what store'' r''
  pub left : List ℕ
  pub begins : (output_text store'' what).bytes ≡ begun ++ left

-- The output failed on the way: at a step that writes, or at the flush before a byte is asked for, which is not read then.
abbrev pub FailedOnTheWay : (List ℕ → Type 0) → ℕ → List ℕ → Registers → Devices → Devices → Type 0
FailedOnTheWay Holds n store r old new = CutShort Holds n store r old new ⊎ Waiting Holds n store r old new

-- All steps were done, or the run had ended of itself, and the flush failed.
abbrev pub FailedAtTheEnd : (List ℕ → Type 0) → ℕ → List ℕ → Registers → Devices → Devices → Type 0
FailedAtTheEnd Holds n store r old new =
    ((store' : List ℕ) × (r' : Registers) × Paused Holds n store r store' r' old new) ⊎ ((e : End) × Finished Holds e n store r old new)

-- The output failed, or the flush after a read that had failed.
abbrev pub Broken : (List ℕ → Type 0) → ℕ → List ℕ → Registers → Devices → Devices → Type 0
Broken Holds n store r old new = FailedOnTheWay Holds n store r old new ⊎ FailedAtTheEnd Holds n store r old new

-- one call delivered these bytes: they were held, or the reader asked its device
abbrev pub CameBy : (List ℕ → Type 0) → Devices → Devices → List ℕ → Type 0
CameBy Holds old new read = NotAsked old new read ⊎ ((old.held ≡ []) × (old.ended ≡ false) × SinceAsk Holds new read)

-- an answer to a step that asks: a word for the bytes delivered and what follows them
pub record Answered (Holds : List ℕ → Type 0) (word : ℕ) (old new : Devices) : Type 0 where
  pub read : List ℕ
  pub exchanged : Exchanged old new read []
  pub word_is : (rest : List ℕ) → Follows new rest → next_byte (read ++ rest) ≡ word
  pub after_is : (rest : List ℕ) → Follows new rest → after_next (read ++ rest) ≡ rest
  pub came : CameBy Holds old new read

-- a call that asks fails by the input, or by the flush of the output before it
abbrev pub AskFails : End → (reads reads' writes' : ℕ) → Type 0
AskFails ReadFault reads reads' writes' = reads' ≡ 1
AskFails WriteFault reads reads' writes' = (reads' ≡ reads) × (writes' ≡ 1)
AskFails e reads reads' writes' = ⊥

-- the ends that a run comes to of itself
abbrev pub IsOwn : End → Type 0
IsOwn (Status v) = ⊤
IsOwn DivideByZero = ⊤
IsOwn StoreLimit = ⊤
IsOwn BadOperation = ⊤
IsOwn StepLimit = ⊥
IsOwn ReadFault = ⊥
IsOwn WriteFault = ⊥

-- how a run of at most n steps went, by its end; a fault of the output is reported by what is passed along
abbrev pub RanOr : (List ℕ → Type 0) → Type 0 → End → ℕ → List ℕ → Registers → List ℕ → Registers → Devices → Devices → Type 0
RanOr Holds fails StepLimit n store r store' r' old new = Paused Holds n store r store' r' old new
RanOr Holds fails ReadFault n store r store' r' old new = Waiting Holds n store r old new
RanOr Holds fails WriteFault n store r store' r' old new = fails
RanOr Holds fails (Status v) n store r store' r' old new = Finished Holds (Status v) n store r old new
RanOr Holds fails DivideByZero n store r store' r' old new = Finished Holds DivideByZero n store r old new
RanOr Holds fails StoreLimit n store r store' r' old new = Finished Holds StoreLimit n store r old new
RanOr Holds fails BadOperation n store r store' r' old new = Finished Holds BadOperation n store r old new

-- a run before the flush at its end
abbrev pub Went : (List ℕ → Type 0) → End → ℕ → List ℕ → Registers → List ℕ → Registers → Devices → Devices → Type 0
Went Holds e n store r store' r' old new = RanOr Holds (FailedOnTheWay Holds n store r old new) e n store r store' r' old new

-- a run and the flush at its end
abbrev pub Ran : (List ℕ → Type 0) → End → ℕ → List ℕ → Registers → List ℕ → Registers → Devices → Devices → Type 0
Ran Holds e n store r store' r' old new = RanOr Holds (Broken Holds n store r old new) e n store r store' r' old new

-- How often the devices failed, after a run and the flush at its end: the input in a run that ends with its fault alone, and
-- not before, unless the flush failed after that; the output in one that ends with its fault alone.
abbrev pub Blames : End → (reads reads' writes' : ℕ) → Type 0
Blames ReadFault reads reads' writes' = (reads' ≡ 1) × (writes' ≡ 0)
Blames WriteFault reads reads' writes' = (reads ≤ reads') × (writes' ≡ 1)
Blames (Status v) reads reads' writes' = (reads' ≡ reads) × (writes' ≡ 0)
Blames DivideByZero reads reads' writes' = (reads' ≡ reads) × (writes' ≡ 0)
Blames StoreLimit reads reads' writes' = (reads' ≡ reads) × (writes' ≡ 0)
Blames BadOperation reads reads' writes' = (reads' ≡ reads) × (writes' ≡ 0)
Blames StepLimit reads reads' writes' = (reads' ≡ reads) × (writes' ≡ 0)

-- how often, before that flush
abbrev pub BlamesBefore : End → (reads reads' writes' : ℕ) → Type 0
BlamesBefore ReadFault reads reads' writes' = reads' ≡ 1
BlamesBefore WriteFault reads reads' writes' = (reads' ≡ reads) × (writes' ≡ 1)
BlamesBefore (Status v) reads reads' writes' = reads' ≡ reads
BlamesBefore DivideByZero reads reads' writes' = reads' ≡ reads
BlamesBefore StoreLimit reads reads' writes' = reads' ≡ reads
BlamesBefore BadOperation reads reads' writes' = reads' ≡ reads
BlamesBefore StepLimit reads reads' writes' = reads' ≡ reads
