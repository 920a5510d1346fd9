-- What running a source comes to on the way: its segments, a machine that holds them, and what refuses it.
use Rattle.std.specs.Prelude.{◌≡◌, ℕ, ◌+◌, ◌<◌, ◌≤◌, Bool, true, false, ⊤, List, ◌++◌, Option, None, Result, Ok, Err}
use Rattle.bk_base.specs.declared.run_end.End.{End}
use Rattle.bk_machine.specs.declared.item.Item.{Item}
use Rattle.bk_machine.specs.declared.machine.Machine.{Machine}
use Rattle.bk_machine.specs.declared.registers.Registers.{Registers}
use Rattle.bk_machine.specs.State.{store_of, registers_of, end_of}
use Rattle.bk_machine.specs.Placement.{SEGMENTS, stack_start, any_starts, loaded_store}
use Rattle.bk_machine.specs.Runs.{Ran}
use Rattle.bk_ocode.specs.declared.stmt.Stmt.{Stmt}
use Rattle.bk_gen.specs.BackEnd.{Part, segments, image}
use Rattle.bk_filters.specs.declared.kit_fault.KitFault.{KitFault}
use Rattle.bk_filters.specs.declared.kit_fault.KitFault.TheVariants.{Source, Ocode, Intcode, TooSmall, NoStart, Read, Write, Memory}
use Rattle.bk_filters.specs.Interpreting.{Streams, devices_of, HasRoom, first_registers}
use Rattle.bk_filters.specs.Headline.{Headline}
use Rattle.bk_filters.specs.ReadingSource.{IsUndecided, EachSource}
use Rattle.bk_filters.specs.SectionNumbers.{stmts_of_parts}
use Rattle.bk_filters.specs.Compiling.{Delivered}
use Rattle.bk_filters.specs.SourceSections.{IsRefused, HasParts}
use Rattle.bk_filters.specs.SourceMeaning.{meanings}

-- Segments that represent some sections.
pub record Stand (all : List (List Item)) (codes : List (List Stmt)) : Type 0 where
  pub parts : List Part
  pub segments_are : segments parts ≡ all
  pub stmts_are : stmts_of_parts parts ≡ codes

-- One segment more represents each of these sections.
abbrev pub Generated : List (List Item) → List (List Item) → List (List Stmt) → Type 0
Generated before after codes = (more : List (List Item)) × (after ≡ before ++ more) × Stand more codes

-- These segments represent the sections of the source.
pub record Assembled (all : List (List Item)) (old new : Option (List ℕ)) (ended : Bool) : Type 0 where
  pub parts : List Part
  pub segments_are : segments parts ≡ all
  pub has : EachSource old new ended (HasParts parts)

-- The source was not assembled: it is refused, or could not be read, or memory was refused.
abbrev pub NotAssembled : KitFault → Option (List ℕ) → Option (List ℕ) → Bool → Type 0
NotAssembled (Source fault) old new ended = EachSource old new ended (λ source. IsRefused source fault)
NotAssembled Read old new ended = EachSource old new ended (λ source. ⊤)
NotAssembled Memory old new ended = EachSource old new ended (λ source. ⊤)
NotAssembled TooSmall old new ended = ⊥
NotAssembled NoStart old new ended = ⊥
NotAssembled Write old new ended = ⊥
NotAssembled (Ocode section fault) old new ended = ⊥
NotAssembled (Intcode segment fault) old new ended = ⊥

-- Accepted sections were delivered, each with its `.`, and some bytes of the next, none after its end; where the source could not be
-- read, it was not decided yet how the next ends.
pub record ReadsSource (failed : Bool) (old new : Option (List ℕ)) : Type 0 where
  pub front : Delivered old new
  pub goes_on : failed ≡ true → IsUndecided front.part

-- A machine before the run of a source.
pub record LoadsSource (machine : Machine) (words : ℕ) (old new : Option (List ℕ)) (ended : Bool) : Type 0 where
  pub parts : List Part
  pub has : EachSource old new ended (HasParts parts)
  pub room : image parts + 16 ≤ words
  pub starts : any_starts (segments parts) ≡ true
  pub store : store_of machine ≡ loaded_store words (segments parts)
  pub registers : registers_of machine ≡ first_registers (segments parts)
  pub fresh : end_of machine ≡ None

-- What refuses a source before anything runs, whatever the steps, the input and the output.
abbrev pub RefusesSource : KitFault → ℕ → Option (List ℕ) → Option (List ℕ) → Bool → Type 0
RefusesSource fault words old new ended = (steps : ℕ) (before : Streams) → Headline meanings (Err fault) steps words old new ended before before

-- ---- limits

-- Segments that represent the sections of the source were loaded into a store of just so many words and run for at most so many steps, and
-- for just so many where the end is `StepLimit`. At each end the bytes read and written are those of the run. Holds says what the reader
-- of the input can hold.
pub record RunsSegments (Holds : List ℕ → Type 0) (end : End) (steps words : ℕ) (old new : Option (List ℕ)) (ended : Bool) (before after : Streams) : Type 0 where
  pub all : List (List Item)
  pub assembled : Assembled all old new ended
  pub room : HasRoom words all
  pub starts : any_starts all ≡ true
  pub store : List ℕ
  pub registers : Registers
  pub ran : Ran Holds end steps (loaded_store words all) (first_registers all) store registers (devices_of before) (devices_of after)

-- Why such segments are not loaded: they leave less than 16 words for the stack; or else, none sets START.
abbrev pub NotLoaded : KitFault → ℕ → Option (List ℕ) → Option (List ℕ) → Bool → Type 0
NotLoaded TooSmall words old new ended = (all : List (List Item)) × Assembled all old new ended × (words < stack_start SEGMENTS all + 16)
NotLoaded NoStart words old new ended = (all : List (List Item)) × Assembled all old new ended × HasRoom words all × (any_starts all ≡ false)
NotLoaded fault words old new ended = ⊤

-- THE LIMITS. What the loader and the machine answer, for any meaning.
abbrev pub KeepsLimits : (List ℕ → Type 0) → Result End KitFault → (steps words : ℕ) → Option (List ℕ) → Option (List ℕ) → Bool → Streams → Streams → Type 0
KeepsLimits Holds (Ok end) steps words old new ended before after = RunsSegments Holds end steps words old new ended before after
KeepsLimits Holds (Err fault) steps words old new ended before after = NotLoaded fault words old new ended
