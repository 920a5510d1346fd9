-- What a check answers: the verdict of the meaning, with the bytes that it reads and writes.
use Rattle.std.specs.Prelude.{◌≡◌, ◌⊎◌, ℕ, ⊤, Bool, true, false, IsTrue, List, [], ◌++◌, Option, None, Some}
use Rattle.std.specs.Io.KnownBytes.{Consumes, Appends}
use Rattle.bk_base.specs.declared.device.ByteIn as reader
use Rattle.bk_base.specs.declared.device.ByteOut as writer
use Rattle.bk_tree.specs.Tree.{Declarations}
use Rattle.bk_meaning.specs.World.{World, Outcome, gives, leaves, ends, undefined, going, status, divide_by_zero, no_start}
use Rattle.bk_meaning.specs.Values.{number}
use Rattle.bk_meaning.specs.Library.{takes_byte}
use Rattle.bk_meaning.specs.Values.{Value}
use Rattle.bk_meaning.specs.Causes.{no_place}
use Rattle.bk_meaning.specs.Calls.{call}
use Rattle.bk_meaning.specs.Parts.{nowhere}
use Rattle.bk_meaning.specs.Lasting.{Program, first_memory}
use Rattle.bk_meaning.specs.Program.{Run, Ends, Going, Undefined, means, run_of, first_world, meaning}
use Rattle.bk_meaning.specs.Growing.{After}
use Rattle.bk_meaning.specs.Turns.{shown, RunGoesOn}
use Rattle.bk_check.specs.declared.frame.Continuation.{Continuation}
use Rattle.bk_check.specs.declared.frame.Thing.TheVariants as g
use Rattle.bk_check.specs.declared.frame.Next.{Next}
use Rattle.bk_check.specs.declared.frame.Next.TheVariants as n
use Rattle.bk_check.specs.declared.machine.Evaluator.{Evaluator}
use Rattle.bk_objects.specs.Views.{cause_of}
use Rattle.bk_objects.specs.declared.computed.Reason.TheVariants as y
use Rattle.bk_checker.specs.Limits.{IsTooDeep, StartsDeep, GoesDeep}
use Rattle.bk_checker.specs.declared.report.Verdict.{Verdict}
use Rattle.bk_checker.specs.declared.report.Verdict.TheVariants as v
use Rattle.bk_checker.specs.declared.report.CheckFault.{CheckFault}
use Rattle.bk_checker.specs.declared.report.CheckFault.TheVariants as x
use Rattle.bk_check.specs.Worlds.{world}
use Rattle.bk_check.specs.Resume.{Given, a_value, Comes, resumed, acts_in, argument_of, outcome_next}

-- What the devices report at a moment: the bytes left of the input and whether its end was reported; the bytes that the output took.
pub record Devices : Type 0 where
  pub left : Option (List ℕ)
  pub ended : Bool
  pub taken : Option (List ℕ)

abbrev pub devices : {I O : Type 0} → reader.Ghosts I → writer.Ghosts O → I → O → Devices
devices i o input out = record { left = i.left input; ended = i.ended input; taken = o.taken out }

-- Between two moments the input delivered these bytes, and the output took these. After the end nothing is delivered.
pub record Exchanged (old new : Devices) (read written : List ℕ) : Type 0 where
  pub delivered : Consumes old.left new.left read
  pub took : Appends old.taken new.taken written
  pub stays : IsTrue old.ended → (read ≡ []) × IsTrue new.ended

-- Whatever may follow the bytes delivered: nothing, where the end was reported.
abbrev pub Follows : Devices → List ℕ → Type 0
Follows new rest = IsTrue new.ended → rest ≡ []

-- The verdict is that of a run, which left this input and wrote these bytes, and nothing was read or written after it. An undefined
-- act, with its cause, and a division by zero are at this position; so is the node for which no turn was left.
abbrev pub Shows : Verdict → ℕ → Run → List ℕ → List ℕ → Type 0
Shows (v.Status k) place run left bytes = (calls : ℕ) × (run ≡ Ends bytes left calls (status k))
Shows v.DivideByZero place run left bytes = (calls : ℕ) × (run ≡ Ends bytes left calls (divide_by_zero place))
Shows v.NoStart place run left bytes = (calls : ℕ) × (run ≡ Ends bytes left calls no_start)
Shows (v.Undefined which why) place run left bytes = (calls : ℕ) × (run ≡ Undefined bytes left calls place (cause_of which why))
Shows v.Turns place run left bytes = (calls : ℕ) × (run ≡ Going bytes left calls place)

-- THE CHECK. With so many turns the meaning of these sections has this verdict, at this position: whatever follows the bytes that were
-- read, it reads just these bytes and writes just those that were written.
pub record Checks (sections : List Declarations) (turns : ℕ) (verdict : Verdict) (place : ℕ) (old new : Devices) : Type 0 where
  pub read : List ℕ
  pub written : List ℕ
  pub exchanged : Exchanged old new read written
  pub shows : (rest : List ℕ) → Follows new rest → Shows verdict place (meaning sections (read ++ rest) turns) rest written

-- How often the devices have failed, before and after a check that was given up: the input failed, and the output did not; or the output
-- failed, after the input had failed or not; or neither failed, where memory was refused or the limit of frames and cells was reached.
abbrev pub Blames : CheckFault → (reads reads' writes writes' : ℕ) → Type 0
Blames x.Read reads reads' writes writes' = (reads' ≡ 1) × (writes' ≡ writes)
Blames x.Write reads reads' writes writes' = ((reads' ≡ reads) ⊎ (reads' ≡ 1)) × (writes' ≡ 1)
Blames x.Memory reads reads' writes writes' = (reads' ≡ reads) × (writes' ≡ writes)
Blames x.TooDeep reads reads' writes writes' = (reads' ≡ reads) × (writes' ≡ writes)

-- All that was written was passed on, where the input failed or the limit was reached.
abbrev pub Flushed : CheckFault → (passed taken : Option (List ℕ)) → Type 0
Flushed x.Read passed taken = passed ≡ taken
Flushed x.TooDeep passed taken = passed ≡ taken
Flushed x.Write passed taken = ⊤
Flushed x.Memory passed taken = ⊤

-- The limit was reached: whatever follows the bytes that were read, a run with that input goes deep.
pub record ComesDeep (goes : List ℕ → Type 0) (old new : Devices) : Type 0 where
  pub read : List ℕ
  pub delivered : Consumes old.left new.left read
  pub deep : (rest : List ℕ) → Follows new rest → goes (read ++ rest)

-- so of these sections, and of the call of START
abbrev pub ChecksDeep : List Declarations → ℕ → Devices → Devices → Type 0
ChecksDeep sections turns old new = ComesDeep (λ input. GoesDeep sections input turns) old new

abbrev pub RunsDeep : Program → Value → ℕ → Devices → Devices → Type 0
RunsDeep p start turns old new = ComesDeep (λ input. StartsDeep p (Some start) (first_world p input turns) turns) old new

-- ---- on the way

-- what comes next ends the run
abbrev pub over : List Continuation → Next → Bool
over fs (n.Status k) = true
over fs (n.DivideByZero s) = true
over fs (n.Undefined s why) = true
over fs (n.Going spot) = true
over [] (n.Gives t) = true
over [] (n.Leaves x) = true
over fs next = false

-- and this is its verdict
abbrev pub verdict_of : Next → Verdict
verdict_of (n.Status k) = v.Status k
verdict_of (n.DivideByZero s) = v.DivideByZero
verdict_of (n.Going spot) = v.Turns
verdict_of (n.Gives (g.Value x)) = v.Status 0
verdict_of (n.Undefined s why) = v.Undefined (argument_of s) why
verdict_of next = v.Undefined None y.NoPlace

-- where what comes next acts
abbrev pub place_of : Next → ℕ
place_of (n.DivideByZero s) = acts_in s
place_of (n.Undefined s why) = acts_in s
place_of (n.Going spot) = spot
place_of next = nowhere

-- how a run ends whose call of START comes to this
abbrev pub run_given : Outcome Given → Run
run_given (gives (a_value v) w) = Ends w.output w.input w.most_calls (status 0)
run_given (gives t w) = Undefined w.output w.input w.most_calls nowhere no_place
run_given (leaves x w) = Undefined w.output w.input w.most_calls nowhere no_place
run_given (ends e w) = Ends w.output w.input w.most_calls e
run_given (undefined l why w) = Undefined w.output w.input w.most_calls l why
run_given (going l w) = Going w.output w.input w.most_calls l

-- an answer to RDCH
pub record Answered (word : ℕ) (old new : Devices) : Type 0 where
  pub read : List ℕ
  pub exchanged : Exchanged old new read []
  pub takes : (rest : List ℕ) (w : World) → Follows new rest → w.input ≡ read ++ rest → takes_byte w.input w ≡ gives (number word) (record w { input = rest })

-- From one moment to another nothing changed of what the whole comes to, but that these bytes were read and written.
pub record Moves (p : Program) (m : Evaluator) (next : Next) (m' : Evaluator) (next' : Next) (old new : Devices) : Type 0 where
  pub read : List ℕ
  pub written : List ℕ
  pub exchanged : Exchanged old new read written
  pub comes : (rest before : List ℕ) → Follows new rest →
      Comes p m'.frames.items next' (world m' (record { input = rest; output = before ++ written }))
      (resumed p m.frames.items (outcome_next p next (world m (record { input = read ++ rest; output = before }))))

-- The run came to this machine, at a limit.
pub record ComesToLimit (p : Program) (m : Evaluator) (next : Next) (m' : Evaluator) (old new : Devices) : Type 0 where
  pub last : Next
  pub moves : Moves p m next m' last old new
  pub is_deep : IsTooDeep m' last

-- a machine before the run of a program
pub record Begun (p : Program) (turns : ℕ) (m : Evaluator) : Type 0 where
  pub frames : m.frames.items ≡ []
  pub store : m.store ≡ first_memory p
  pub calls : m.calls ≡ 0
  pub most_calls : m.most_calls ≡ 0
  pub most_cells : m.most_cells ≡ 0
  pub has_turns : m.turns ≡ turns

-- the verdict is that of the call of START
pub record Runs (p : Program) (start : Value) (turns : ℕ) (verdict : Verdict) (place : ℕ) (old new : Devices) : Type 0 where
  pub read : List ℕ
  pub written : List ℕ
  pub exchanged : Exchanged old new read written
  pub shows : (rest : List ℕ) → Follows new rest → Shows verdict place (run_of (call p (means p turns) nowhere start [] (first_world p (read ++ rest) turns))) rest written

-- ---- a check that was given up

-- What was read and written begins what the meaning reads and writes, whatever follows.
pub record ChecksPart (sections : List Declarations) (turns : ℕ) (old new : Devices) : Type 0 where
  pub read : List ℕ
  pub written : List ℕ
  pub exchanged : Exchanged old new read written
  pub goes_on : (rest : List ℕ) → Follows new rest → RunGoesOn (shown written rest 0) (meaning sections (read ++ rest) turns)

-- the same of the call of START
pub record RunsPart (p : Program) (start : Value) (turns : ℕ) (old new : Devices) : Type 0 where
  pub read : List ℕ
  pub written : List ℕ
  pub exchanged : Exchanged old new read written
  pub goes_on : (rest : List ℕ) → Follows new rest → RunGoesOn (shown written rest 0) (run_of (call p (means p turns) nowhere start [] (first_world p (read ++ rest) turns)))

-- and of what the whole comes to
pub record Reaches (p : Program) (m : Evaluator) (next : Next) (old new : Devices) : Type 0 where
  pub read : List ℕ
  pub written : List ℕ
  pub exchanged : Exchanged old new read written
  pub grows : (rest before : List ℕ) → Follows new rest →
      After (shown (before ++ written) rest 0) (resumed p m.frames.items (outcome_next p next (world m (record { input = read ++ rest; output = before }))))
