-- What a run with a line for each step comes to.
use Rattle.std.specs.Prelude.{◌≡◌, ◌≢◌, ◌⊎◌, ℕ, Bool, ⊤, List, Option, Result, Ok, Err, if◌then◌else◌}
use Rattle.bk_base.specs.declared.device.ByteIn as reader
use Rattle.bk_base.specs.declared.run_end.End.{End}
use Rattle.bk_base.specs.declared.run_end.End.TheVariants.{WriteFault}
use Rattle.bk_base.specs.Devices.{Begins}
use Rattle.bk_machine.specs.Runs.{Blames}
use Rattle.bk_ocode.specs.SectionAnswer.{StopsAtDevice}
use Rattle.bk_ocode.specs.declared.stmt.Stmt.{Stmt}
use Rattle.bk_filters.specs.declared.kit_fault.KitFault.{KitFault}
use Rattle.bk_filters.specs.declared.kit_fault.KitFault.TheVariants.{Source, Ocode, Intcode, TooSmall, NoStart, Read, Write, Memory}
use Rattle.bk_filters.specs.Generating.{ocode}
use Rattle.bk_filters.specs.Interpreting.{Streams, devices_of, CodeRefused, Interprets, is_read_fault, is_read}
use Rattle.bk_filters.specs.Texts.{Applies, StopsInPart, parts, refused}
use Rattle.bk_filters.specs.Telling.{Output, Tells}

-- THE TRACE. The run is the one of `interpret`, with the same bytes and the same end, unless the output fails: it is flushed at each step, so
-- that its failure may show at an earlier one.
abbrev pub Traced : (List ℕ → Type 0) → Result End KitFault → (steps words : ℕ) → Option (List ℕ) → Option (List ℕ) → Bool → Streams → Streams → Type 0
Traced Holds (Ok end) steps words old new ended before after =
    (end ≢ WriteFault → Interprets Holds end steps words old new ended (devices_of before) (devices_of after))
    × Begins before.passed after.passed × (end ≢ WriteFault → after.passed ≡ after.taken) × Blames end before.reads after.reads after.writes
Traced Holds (Err fault) steps words old new ended before after = CodeRefused fault words old new ended × (after ≡ before)

-- ---- with the names of procedures

-- What was left of a file before and after a call, whether its end was reported, and how often it failed.
pub record FileRead : Type 0 where
  pub old : Option (List ℕ)
  pub new : Option (List ℕ)
  pub ended : Bool
  pub faults : ℕ

abbrev pub read_from : {F : Type 0} → reader.Ghosts F → Option (List ℕ) → F → FileRead
read_from f old after = record { old = old; new = f.left after; ended = f.ended after; faults = f.faults after }

abbrev pub file_read : {F : Type 0} → reader.Ghosts F → (before after : F) → FileRead
file_read f before after = read_from f (f.left before) after

-- What refuses a text of OCODE as it is read.
abbrev pub OcodeRefused : KitFault → Option (List ℕ) → Option (List ℕ) → Bool → Type 0
OcodeRefused (Ocode number fault) old new ended = Applies ocode (refused number fault.statement fault.kind) old new ended
OcodeRefused Read old new ended = StopsInPart ocode StopsAtDevice old new
OcodeRefused Memory old new ended = ⊤
OcodeRefused (Source fault) old new ended = ⊥
OcodeRefused (Intcode number fault) old new ended = ⊥
OcodeRefused TooSmall old new ended = ⊥
OcodeRefused NoStart old new ended = ⊥
OcodeRefused Write old new ended = ⊥

-- The whole text is of sections.
abbrev pub HasSections : FileRead → Type 0
HasSections names = ((sections : List (List Stmt)) × Applies ocode (parts sections) names.old names.new names.ended) × (names.faults ≡ 0)

-- The text of OCODE is refused, and nothing was read of the INTCODE and nothing was run.
abbrev pub RefusesNames : Result End KitFault → FileRead → FileRead → Streams → Streams → Type 0
RefusesNames (Ok end) names code before after = ⊥
RefusesNames (Err fault) names code before after =
    OcodeRefused fault names.old names.new names.ended × (names.faults ≡ (if is_read_fault fault then 1 else 0)) × (code.new ≡ code.old) × (after ≡ before)

-- THE TRACE WITH NAMES. The text of OCODE is read first, and then the run is that of the trace.
abbrev pub TracedNamed : (List ℕ → Type 0) → Result End KitFault → (steps words : ℕ) → FileRead → FileRead → Streams → Streams → Type 0
TracedNamed Holds answer steps words names code before after =
    (HasSections names × Traced Holds answer steps words code.old code.new code.ended before after × (code.faults ≡ (if is_read answer then 1 else 0)))
    ⊎ RefusesNames answer names code before after

-- Some lines for the steps, of which no contract says more, and then the line of the answer if there is one.
pub record ReportsTrace (line : Option (List ℕ)) (old new : Output) : Type 0 where
  pub mid : Output
  pub grows : Begins old.taken mid.taken
  pub passes : Begins old.passed mid.passed
  pub tells : Tells line mid new
