-- What the calls of a page come to: a command line over bytes, and a machine after some steps.
use Rattle.std.specs.Prelude.{◌≡◌, ℕ, ◌<◌, ◌==◌, ⊤, ◌⊎◌, Bool, false, List, [], Option, Some, length, take, min}
use Rattle.std.specs.List.{slice_split}
use Rattle.std.specs.Str.{IsUtf8}
use Rattle.clap.specs.Words.{Text, subcommand_of}
use Rattle.bk_base.specs.declared.limit.TheConstants.{STORE_LEAST, STORE_MOST}
use Rattle.bk_base.specs.declared.run_end.End.{End}
use Rattle.bk_machine.specs.declared.item.Item.{Item}
use Rattle.bk_machine.specs.declared.machine.Machine.{Machine}
use Rattle.bk_machine.specs.declared.registers.Registers.{Registers}
use Rattle.bk_machine.specs.Placement.{SEGMENTS, stack_start, loaded_store}
use Rattle.bk_machine.specs.State.{words_of}
use Rattle.bk_machine.specs.Runs.{Devices, Ran}
use Rattle.bk_filters.specs.declared.kit_fault.KitFault.{KitFault}
use Rattle.bk_filters.specs.Interpreting.{Streams, CodeRefused, Loads, Loadable, first_registers, devices_of}
use Rattle.bk_filters.specs.Telling.{Output, Tells}
use Rattle.bk_kit.specs.declared.command_line.LineFault.{LineFault}
use Rattle.bk_kit.specs.declared.command_line.LineFault.TheVariants.{Help, Bad, Memory}
use Rattle.bk_kit.specs.declared.orders.Order.{Order}
use Rattle.bk_kit.specs.CommandLine.{kit_command, Reads, Refuses}
use Rattle.bk_kit.specs.Serving.{ServesNamed}
use Rattle.bk_kit.specs.Statuses.{refusal_status, refusal_line, fault_status, end_status}
use Rattle.bk_kit.specs.Tracing.{FileRead}
use Rattle.bk_web.specs.declared.answer.Standing.{Standing}
use Rattle.bk_web.specs.Kept.{IsFront}

-- the words of a text: byte 10 separates them
abbrev pub texts_of : List ℕ → List Text
texts_of bytes = slice_split (λ b. b == 10) bytes

-- what the devices report before a call: the bytes of the input, and nothing taken
abbrev pub streams_before : List ℕ → Streams
streams_before input = record { left = Some input; held = []; ended = false; taken = Some []; passed = Some []; reads = 0; writes = 0 }

abbrev pub output_before : Output
output_before = record { taken = Some []; passed = Some []; faults = 0 }

-- The bytes give no order: they are no text, or the words of the text are refused.
abbrev pub RefusesBytes : List ℕ → LineFault → Type 0
RefusesBytes words fault = Refuses (texts_of words) fault ⊎ ((IsUtf8 words → ⊥) × (fault ≡ Bad))

-- help alone is written to the output
abbrev pub IsHelp : LineFault → Type 0
IsHelp (Help help) = ⊤
IsHelp Bad = ⊥
IsHelp Memory = ⊥

-- An order was read from the words and served over these bytes: of FILE, of the OCODE that gives names, and of the input. Holds says what the
-- reader of the input can hold.
pub record ServesOrder (Holds : List ℕ → Type 0) (words file ocode input : List ℕ) (status : ℕ) (output lines : List ℕ) : Type 0 where
  pub order : Order
  pub reads : Reads (subcommand_of kit_command (texts_of words)) order
  pub read : FileRead
  pub read_is : read.old ≡ Some file
  pub names : FileRead
  pub names_are : names.old ≡ Some ocode
  pub after : Streams
  pub reported : Output
  pub serves : ServesNamed Holds order status read names (streams_before input) after output_before reported
  pub output_is : after.taken ≡ Some output
  pub lines_are : reported.taken ≡ Some lines

-- The words gave no order, and a line says so.
pub record RefusesWords (words : List ℕ) (status : ℕ) (output lines : List ℕ) : Type 0 where
  pub fault : LineFault
  pub refuses : RefusesBytes words fault
  pub status_is : status ≡ refusal_status fault
  pub reported : Output
  pub tells : Tells (refusal_line fault) output_before reported
  pub lines_are : reported.taken ≡ Some lines
  pub output_is : IsHelp fault ⊎ (output ≡ [])

-- A COMMAND LINE over these bytes comes to this status, with this output and these lines on the error stream.
abbrev pub Commands : (List ℕ → Type 0) → (words file ocode input : List ℕ) → (status : ℕ) → (output lines : List ℕ) → Type 0
Commands Holds words file ocode input status output lines =
    ServesOrder Holds words file ocode input status output lines ⊎ RefusesWords words status output lines

-- The same, where the host is given the fronts of the output and of the lines that fit.
pub record Answers (Holds : List ℕ → Type 0) (words file ocode input : List ℕ) (status counted counted_lines : ℕ) (room room_lines : List ℕ) : Type 0 where
  pub output : List ℕ
  pub lines : List ℕ
  pub commands : Commands Holds words file ocode input status output lines
  pub output_given : IsFront output counted room
  pub lines_given : IsFront lines counted_lines room_lines

-- A machine before a run of the segments of a text.
pub record LoadsText (machine : Machine) (words : ℕ) (code : List ℕ) : Type 0 where
  pub left : Option (List ℕ)
  pub ended : Bool
  pub loads : Loads machine words (Some code) left ended
  pub words_is : words_of machine ≡ words

-- A text that is refused, or cannot be loaded.
pub record RefusesText (fault : KitFault) (words : ℕ) (code : List ℕ) : Type 0 where
  pub left : Option (List ℕ)
  pub ended : Bool
  pub refused : CodeRefused fault words (Some code) left ended

-- THE MACHINE AFTER SOME STEPS: the segments of the code were loaded and run, and the host is given the registers, the front of the store and
-- the front of the output.
pub record Steps (Holds : List ℕ → Type 0) (code input : List ℕ) (steps words : ℕ) (standing : Standing) (room front : List ℕ) : Type 0 where
  pub all : List (List Item)
  pub left : Option (List ℕ)
  pub ended : Bool
  pub loadable : Loadable all words (Some code) left ended
  pub end : End
  pub store : List ℕ
  pub registers : Registers
  pub after : Devices
  pub ran : Ran Holds end steps (loaded_store words all) (first_registers all) store registers (devices_of (streams_before input)) after
  pub status_is : standing.status ≡ end_status end
  pub registers_are : registers ≡ record { c = standing.c; p = standing.p; a = standing.a; b = standing.b }
  pub stack_is : standing.stack ≡ stack_start SEGMENTS all
  pub words_are : (standing.words ≡ min (length store) (length front)) × (take standing.words front ≡ take standing.words store)
  pub output : List ℕ
  pub output_is : after.taken ≡ Some output
  pub output_given : IsFront output standing.output room

-- a host that is given nothing
abbrev pub IsEmpty : Standing → Type 0
IsEmpty standing = (standing.stack ≡ 0) × (standing.words ≡ 0) × (standing.output ≡ 0) × (standing.line ≡ 0)

-- Nothing was run: the text is refused or cannot be loaded, or no store has so many words.
abbrev pub RunsNothing : List ℕ → ℕ → Standing → Type 0
RunsNothing code words standing =
    IsEmpty standing
    × (((fault : KitFault) × RefusesText fault words code × (standing.status ≡ fault_status fault))
    ⊎ (((words < STORE_LEAST) ⊎ (STORE_MOST < words)) × (standing.status ≡ 112)))
