-- What interpreting a text of segments comes to.
use Rattle.std.specs.Prelude.{◌≡◌, ◌≢◌, ℕ, ◌+◌, ◌<◌, ◌≤◌, Bool, true, false, ⊤, List, Option, None, Result, Ok, Err}
use Rattle.bk_base.specs.declared.run_end.End.{End}
use Rattle.bk_base.specs.declared.device.ByteIn as reader
use Rattle.bk_base.specs.declared.device.ByteOut as writer
use Rattle.bk_base.specs.Devices.{Begins}
use Rattle.bk_machine.specs.declared.item.Item.{Item}
use Rattle.bk_machine.specs.declared.registers.Registers.{Registers}
use Rattle.bk_machine.specs.declared.machine.Machine.{Machine}
use Rattle.bk_machine.specs.State.{store_of, registers_of, end_of, sizes_of}
use Rattle.bk_machine.specs.Placement.{SEGMENTS, stack_start, loaded_store, greatest_frame, any_starts}
use Rattle.bk_base.specs.declared.run_end.End.TheVariants.{WriteFault}
use Rattle.bk_machine.specs.Runs.{Devices, Ran, Blames}
use Rattle.bk_intcode.specs.SegmentReading.{StopsAtDevice}
use Rattle.bk_filters.specs.declared.kit_fault.KitFault.{KitFault}
use Rattle.bk_filters.specs.declared.kit_fault.KitFault.TheVariants.{Source, Ocode, Intcode, TooSmall, NoStart, Read, Write, Memory}
use Rattle.bk_filters.specs.Texts.{Applies, StopsInPart, parts, refused}
use Rattle.bk_filters.specs.Code.{intcode}

-- at least 16 words of the store are left for the stack
abbrev pub HasRoom : ℕ → List (List Item) → Type 0
HasRoom words all = stack_start SEGMENTS all + 16 ≤ words

-- the registers before a run
abbrev pub first_registers : List (List Item) → Registers
first_registers all = record { c = 1; p = stack_start SEGMENTS all; a = 0; b = 0 }

-- What refuses a text as it is read.
abbrev pub TextRefused : KitFault → Option (List ℕ) → Option (List ℕ) → Bool → Type 0
TextRefused (Intcode number fault) old new ended = Applies intcode (refused number fault.item fault.kind) old new ended
TextRefused Read old new ended = StopsInPart intcode StopsAtDevice old new
TextRefused Memory old new ended = ⊤
TextRefused (Source fault) old new ended = ⊥
TextRefused (Ocode number fault) old new ended = ⊥
TextRefused TooSmall old new ended = ⊥
TextRefused NoStart old new ended = ⊥
TextRefused Write old new ended = ⊥

-- What refuses a text before anything runs, given the words of the store.
abbrev pub CodeRefused : KitFault → ℕ → Option (List ℕ) → Option (List ℕ) → Bool → Type 0
CodeRefused TooSmall words old new ended =
    (all : List (List Item)) × Applies intcode (parts all) old new ended × (words < stack_start SEGMENTS all + 16)
CodeRefused NoStart words old new ended =
    (all : List (List Item)) × Applies intcode (parts all) old new ended × HasRoom words all × (any_starts all ≡ false)
CodeRefused fault words old new ended = TextRefused fault old new ended

-- The text is of segments that can be loaded.
pub record Loadable (all : List (List Item)) (words : ℕ) (old new : Option (List ℕ)) (ended : Bool) : Type 0 where
  pub applies : Applies intcode (parts all) old new ended
  pub room : HasRoom words all
  pub starts : any_starts all ≡ true

-- A machine before a run of the segments of the text.
pub record Loads (machine : Machine) (words : ℕ) (old new : Option (List ℕ)) (ended : Bool) : Type 0 where
  pub all : List (List Item)
  pub loadable : Loadable all words old new ended
  pub store : store_of machine ≡ loaded_store words all
  pub registers : registers_of machine ≡ first_registers all
  pub fresh : end_of machine ≡ None
  pub sizes : sizes_of machine ≡ record { image = stack_start SEGMENTS all; frame = greatest_frame all }

-- a reader that can hold any bytes
abbrev pub AnyBytes : List ℕ → Type 0
AnyBytes bytes = ⊤

-- The segments of the text were loaded and run, and the run ended so. Holds says what the reader of the input can hold.
pub record Interprets (Holds : List ℕ → Type 0) (end : End) (steps words : ℕ) (old new : Option (List ℕ)) (ended : Bool) (before after : Devices) : Type 0 where
  pub all : List (List Item)
  pub loadable : Loadable all words old new ended
  pub store : List ℕ
  pub registers : Registers
  pub ran : Ran Holds end steps (loaded_store words all) (first_registers all) store registers before after

-- What input and output report at a moment: the bytes left, those of them that the reader holds, and whether the end was reported; the
-- bytes taken, and those passed on; how often each failed.
pub record Streams : Type 0 where
  pub left : Option (List ℕ)
  pub held : List ℕ
  pub ended : Bool
  pub taken : Option (List ℕ)
  pub passed : Option (List ℕ)
  pub reads : ℕ
  pub writes : ℕ

abbrev pub streams : {I O : Type 0} → reader.Ghosts I → writer.Ghosts O → I → O → Streams
streams i o input out =
    record {
      left = i.left input;
      held = i.held input;
      ended = i.ended input;
      taken = o.taken out;
      passed = o.passed out;
      reads = i.faults input;
      writes = o.faults out;
    }

abbrev pub devices_of : Streams → Devices
devices_of streams = record { left = streams.left; held = streams.held; ended = streams.ended; taken = streams.taken; passed = streams.passed }

-- What interpreting answers: the end of the run, after which what was passed on before is still the beginning of what was
-- passed on, and is all that was taken unless the output failed; or the fault of a text of which nothing was run.
abbrev pub Interpreted : (List ℕ → Type 0) → Result End KitFault → ℕ → ℕ → Option (List ℕ) → Option (List ℕ) → Bool → Streams → Streams → Type 0
Interpreted Holds (Ok end) steps words old new ended before after =
    Interprets Holds end steps words old new ended (devices_of before) (devices_of after)
    × Begins before.passed after.passed × (end ≢ WriteFault → after.passed ≡ after.taken) × Blames end before.reads after.reads after.writes
Interpreted Holds (Err fault) steps words old new ended before after = CodeRefused fault words old new ended × (after ≡ before)

-- the fault of a read
abbrev pub is_read_fault : KitFault → Bool
is_read_fault Read = true
is_read_fault fault = false

abbrev pub is_read : {T : Type 0} → Result T KitFault → Bool
is_read (Ok value) = false
is_read (Err fault) = is_read_fault fault
