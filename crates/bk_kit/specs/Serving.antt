-- What serving an order comes to: what it asks for, the exit status, and the line on the error stream.
use Rattle.std.specs.Prelude.{◌≡◌, ◌≢◌, ℕ, ⊤, List, Option, None, Some, Bool, Result, Ok, string_bytes, if◌then◌else◌}
use Rattle.bk_base.specs.Devices.{Begins}
use Rattle.bk_base.specs.declared.run_end.End.{End}
use Rattle.bk_base.specs.declared.run_end.End.TheVariants.{WriteFault}
use Rattle.bk_filters.specs.declared.kit_fault.KitFault.{KitFault}
use Rattle.bk_filters.specs.Interpreting.{Streams, Interpreted, is_read}
use Rattle.bk_filters.specs.Headline.{Headline}
use Rattle.bk_filters.specs.Compiling.{Compiles}
use Rattle.bk_filters.specs.Generating.{Generates}
use Rattle.bk_filters.specs.RunningSource.{ReadsSource, KeepsLimits}
use Rattle.bk_filters.specs.SourceMeaning.{meanings}
use Rattle.bk_filters.specs.Sizes.{store_words, Reports}
use Rattle.bk_filters.specs.Telling.{Output, Tells}
use Rattle.bk_kit.specs.declared.orders.Order.{Order}
use Rattle.bk_kit.specs.declared.orders.Order.TheVariants.{Compile, Generate, Run, TraceSource, Check, Show, ShowInput, Interpret, Trace, Sizes}
use Rattle.bk_checker.specs.declared.report.Report.{Report}
use Rattle.bk_kit.specs.declared.checker.NotChecked.{NotChecked}
use Rattle.bk_kit.specs.Checking.{fails_check, ChecksSource, ReadsOn, check_status, ReportsCheck}
use Rattle.bk_kit.specs.Showing.{ShowsSource}
use Rattle.bk_kit.specs.Statuses.{run_status, run_line, done_status, done_line}
use Rattle.bk_kit.specs.Tracing.{FileRead, Traced, TracedNamed, ReportsTrace}

-- what the output reports these
abbrev pub output_of : Streams → Output
output_of streams = record { taken = streams.taken; passed = streams.passed; faults = streams.writes }

-- FILE failed where the answer says that it could not be read, and nowhere else
abbrev pub Fails : {T : Type 0} → Result T KitFault → ℕ → Type 0
Fails answer faults = faults ≡ (if is_read answer then 1 else 0)

-- `file` is what was read of FILE; Holds says what the reader of the input can hold.
abbrev pub Serves : (List ℕ → Type 0) → Order → ℕ → (file : FileRead) → Streams → Streams → Output → Output → Type 0
-- the filters go from the input to the output
Serves Holds Compile status file before after err_before err_after =
    (answer : Result (Unit {0}) KitFault) × Compiles answer before.left after.left after.ended after.reads (output_of before) (output_of after)
    × (status ≡ done_status answer) × Tells (done_line answer) err_before err_after
Serves Holds Generate status file before after err_before err_after =
    (answer : Result (Unit {0}) KitFault) × Generates answer before.left after.left after.ended after.reads (output_of before) (output_of after)
    × (status ≡ done_status answer) × Tells (done_line answer) err_before err_after
Serves Holds (Run limits name) status file before after err_before err_after =
    (answer : Result End KitFault) × Headline meanings answer limits.steps limits.words file.old file.new file.ended before after
    × KeepsLimits Holds answer limits.steps limits.words file.old file.new file.ended before after
    × ReadsSource (is_read answer) file.old file.new × Fails answer file.faults
    × (status ≡ run_status answer) × Tells (run_line answer) err_before err_after
Serves Holds (TraceSource limits extent name) status file before after err_before err_after =
    (answer : Result End KitFault) × (answer ≢ Ok WriteFault → Headline meanings answer limits.steps limits.words file.old file.new file.ended before after)
    × (answer ≢ Ok WriteFault → KeepsLimits Holds answer limits.steps limits.words file.old file.new file.ended before after)
    × Begins before.passed after.passed × ReadsSource (is_read answer) file.old file.new × Fails answer file.faults
    × (status ≡ run_status answer) × ReportsTrace (run_line answer) err_before err_after
Serves Holds (Check turns name) status file before after err_before err_after =
    (answer said : Result Report NotChecked) × (reached : FileRead) × (reached.old ≡ file.old)
    × ChecksSource answer turns reached.old reached.new reached.ended before after × Begins before.passed after.passed
    × ReadsSource (fails_check answer) reached.old reached.new × (reached.faults ≡ (if fails_check answer then 1 else 0))
    × ReadsOn answer said reached file × (status ≡ check_status said) × ReportsCheck (string_bytes name) said err_before err_after
Serves Holds (Show part name) status file before after err_before err_after =
    (answer : Result (Unit {0}) KitFault) × ShowsSource answer file.old file.new file.ended file.faults (output_of before) (output_of after)
    × (status ≡ done_status answer) × Tells (done_line answer) err_before err_after
Serves Holds (ShowInput part) status file before after err_before err_after =
    (answer : Result (Unit {0}) KitFault) × ShowsSource answer before.left after.left after.ended after.reads (output_of before) (output_of after)
    × (status ≡ done_status answer) × Tells (done_line answer) err_before err_after
Serves Holds (Interpret limits name) status file before after err_before err_after =
    (answer : Result End KitFault) × Interpreted Holds answer limits.steps limits.words file.old file.new file.ended before after × Fails answer file.faults
    × (status ≡ run_status answer) × Tells (run_line answer) err_before err_after
Serves Holds (Trace limits name ocode) status file before after err_before err_after =
    (answer : Result End KitFault) × Traced Holds answer limits.steps limits.words file.old file.new file.ended before after × Fails answer file.faults
    × (status ≡ run_status answer) × ReportsTrace (run_line answer) err_before err_after
Serves Holds (Sizes words name) status file before after err_before err_after =
    (answer : Result (Unit {0}) KitFault) × Reports answer (store_words words) file.old file.new file.ended (output_of before) (output_of after) × Fails answer file.faults
    × (status ≡ done_status answer) × Tells (done_line answer) err_before err_after

-- The same with `names`, what was read of the OCODE that gives names.
abbrev pub ServesNamed : (List ℕ → Type 0) → Order → ℕ → (file names : FileRead) → Streams → Streams → Output → Output → Type 0
ServesNamed Holds (Trace limits name (Some ocode)) status file names before after err_before err_after =
    (answer : Result End KitFault) × TracedNamed Holds answer limits.steps limits.words names file before after
    × (status ≡ run_status answer) × ReportsTrace (run_line answer) err_before err_after
ServesNamed Holds order status file names before after err_before err_after = Serves Holds order status file before after err_before err_after

-- The filters, and `show` of the input, ask nothing of FILE; `show` of FILE and `--sizes` ask nothing of the input.
abbrev pub LeavesFile : {F : Type 0} → Order → F → F → Type 0
LeavesFile Compile old new = new ≡ old
LeavesFile Generate old new = new ≡ old
LeavesFile (ShowInput part) old new = new ≡ old
LeavesFile order old new = ⊤

-- Only a trace with names asks anything of the OCODE.
abbrev pub LeavesNames : {N : Type 0} → Order → N → N → Type 0
LeavesNames (Trace limits name (Some ocode)) old new = ⊤
LeavesNames order old new = new ≡ old

abbrev pub LeavesInput : {I : Type 0} → Order → I → I → Type 0
LeavesInput (Show part name) old new = new ≡ old
LeavesInput (Sizes words name) old new = new ≡ old
LeavesInput order old new = ⊤
