-- What checking a source comes to: the verdict of its meaning, or a fault of its text, or why there is no verdict.
use Rattle.std.specs.Prelude.{◌≡◌, ◌⊎◌, ℕ, ◌≤◌, nat_lt, ⊤, All, IfSome, Bool, true, false, length, List, [], ◌∷◌, ◌++◌, ◌==◌, map, Option, None, Some, option_map, Result, Ok, Err, Vec, vec_len, codes, decimal, if◌then◌else◌}
use Rattle.std.specs.Global.{Global}
use Rattle.std.specs.Io.KnownBytes.{Consumes}
use Rattle.bk_base.specs.declared.source_fault.SourceKind.{SourceKind}
use Rattle.bk_base.specs.declared.source_fault.SourceKind.TheVariants.{BadByte, BadString, BadEscape, NumberOver32Bits, NameTooLong, TagTooLong, SectionTooLong, BadGet}
use Rattle.bk_tree.specs.Position.{line_in, column_after}
use Rattle.bk_tree.specs.Tree.{Declarations}
use Rattle.bk_lines.specs.declared.places.Start.{Start}
use Rattle.bk_lines.specs.Places.{line_after, place_text, LineEnd}
use Rattle.bk_hints.specs.Hints.{Hints}
use Rattle.bk_checker.specs.declared.report.Verdict.{Verdict}
use Rattle.bk_checker.specs.declared.report.Verdict.TheVariants as v
use Rattle.bk_checker.specs.declared.report.CheckFault.{CheckFault}
use Rattle.bk_checker.specs.declared.report.CheckFault.TheVariants as x
use Rattle.bk_reports.specs.declared.remarks.Remark.{Remark}
use Rattle.bk_checker.specs.declared.report.Report.{Report}
use Rattle.bk_reports.specs.declared.notice.Notice.{Notice}
use Rattle.bk_checker.specs.declared.source.SourceText.{SourceText}
use Rattle.bk_checker.specs.Reports.{IsBefore}
use Rattle.bk_checker.specs.Checks.{Devices, Checks, ChecksPart, ChecksDeep, Blames, Flushed}
use Rattle.bk_filters.specs.declared.kit_fault.KitFault.{KitFault}
use Rattle.bk_filters.specs.declared.kit_fault.KitFault.TheVariants.{Source}
use Rattle.bk_filters.specs.FaultLine.{fault_text, line_of}
use Rattle.bk_filters.specs.Interpreting.{Streams, is_read_fault}
use Rattle.bk_filters.specs.ReadingSource.{EachSource}
use Rattle.bk_filters.specs.RunningSource.{NotAssembled}
use Rattle.bk_filters.specs.SourceSections.{HasTrees}
use Rattle.bk_filters.specs.Telling.{Output, ReportsLine, Tells}
use Rattle.bk_kit.specs.declared.cut.CutSection.{CutSection}
use Rattle.bk_kit.specs.declared.checker.Refusal.{Refusal}
use Rattle.bk_kit.specs.declared.checker.NotChecked.{NotChecked}
use Rattle.bk_kit.specs.declared.checker.NotChecked.TheVariants as n
use Rattle.bk_kit.specs.Statuses.{fault_status}
use Rattle.bk_kit.specs.Tracing.{FileRead}

-- the source could not be read
abbrev pub fails_reading : {T : Type 0} → Result T Refusal → Bool
fails_reading (Ok value) = false
fails_reading (Err refusal) = is_read_fault refusal.fault

abbrev pub fails_check : {T : Type 0} → Result T NotChecked → Bool
fails_check (Ok value) = false
fails_check (Err (n.Text refusal)) = is_read_fault refusal.fault
fails_check (Err (n.Run stop)) = false

-- the trees of the source are these
abbrev pub HasTheseTrees : List Declarations → Option (List ℕ) → Option (List ℕ) → Bool → Type 0
HasTheseTrees trees old new ended = EachSource old new ended (λ source. HasTrees source trees)

abbrev pub checked_devices : Streams → Devices
checked_devices streams = record { left = streams.left; ended = streams.ended; taken = streams.taken }

-- The source is accepted, this is the verdict of its meaning, and this the position of an undefined act.
pub record ChecksTrees (verdict : Verdict) (place turns : ℕ) (old new : Option (List ℕ)) (ended : Bool) (before after : Streams) : Type 0 where
  pub trees : List Declarations
  pub has : HasTheseTrees trees old new ended
  pub checks : Checks trees turns verdict place (checked_devices before) (checked_devices after)

-- What a person is reported of a fault of a section of this text, which begins here in its source: nothing where memory is refused for it, and
-- nothing of another fault.
abbrev pub HintsAt : Start → List ℕ → KitFault → List (Vec ℕ Global) → Type 0
HintsAt start text fault [] = ⊤
HintsAt start text (Source fault) pages = Hints start text fault pages
HintsAt start text fault pages = ⊥

-- After these bytes of a source, what comes next begins here.
pub record StartsAfter (before : List ℕ) (start : Start) : Type 0 where
  pub line_is : start.line ≡ line_after 1 before
  pub column_is : start.column ≡ column_after 1 before

-- This text is a part of what was read of a source, and begins here in it.
pub record InSource (old new : Option (List ℕ)) (start : Start) (text : List ℕ) : Type 0 where
  pub before : List ℕ
  pub later : List ℕ
  pub delivered : Consumes old new ((before ++ text) ++ later)
  pub starts : StartsAfter before start

abbrev pub AllInSource : Option (List ℕ) → Option (List ℕ) → List SourceText → Type 0
AllInSource old new texts = All (λ text. InSource old new text.start text.bytes.items) texts

-- `LINE:COLUMN` of a position in the text of a section, both counted from the source's first byte.
pub record HasPlace (position : ℕ) (place : List ℕ) (old new : Option (List ℕ)) : Type 0 where
  pub start : Start
  pub text : List ℕ
  pub in_source : InSource old new start text
  pub before : List ℕ
  pub is_before : IsBefore start text position before
  pub is_place : place ≡ place_text start before

-- What is told of a place has this for its place, or no place.
abbrev pub IsPlacedIn : Option (List ℕ) → Option (List ℕ) → Notice → Type 0
IsPlacedIn old new notice = (notice.place.items ≡ []) ⊎ HasPlace notice.at notice.place.items old new

-- the kinds of faults of bytes
abbrev pub is_kind_of_bytes : SourceKind → Bool
is_kind_of_bytes BadByte = true
is_kind_of_bytes BadString = true
is_kind_of_bytes BadEscape = true
is_kind_of_bytes NumberOver32Bits = true
is_kind_of_bytes NameTooLong = true
is_kind_of_bytes TagTooLong = true
is_kind_of_bytes SectionTooLong = true
is_kind_of_bytes BadGet = true
is_kind_of_bytes kind = false

-- a fault of bytes, which ends the reading of a source within a line
abbrev pub is_of_bytes : KitFault → Bool
is_of_bytes (Source fault) = is_kind_of_bytes fault.kind
is_of_bytes fault = false

-- The text before a fault of bytes; none where memory is refused for it, and none of another fault.
abbrev pub IsCut : Start → List ℕ → KitFault → Option CutSection → Type 0
IsCut start text fault None = ⊤
IsCut start text fault (Some cut) = (cut.start ≡ start) × (cut.text.items ≡ text) × (is_of_bytes fault ≡ true)

-- The hints of a refusal are those of the section that is refused: the last of which bytes were delivered, at its place in the source.
pub record HintsIn (refusal : Refusal) (old new : Option (List ℕ)) : Type 0 where
  pub before : List ℕ
  pub text : List ℕ
  pub start : Start
  pub delivered : Consumes old new (before ++ text)
  pub starts : StartsAfter before start
  pub hints : HintsAt start text refusal.fault refusal.hints.items
  pub cut : IsCut start text refusal.fault refusal.cut

-- so of a source that is refused
abbrev pub TextHints : Result Report NotChecked → Option (List ℕ) → Option (List ℕ) → Type 0
TextHints (Ok report) old new = ⊤
TextHints (Err (n.Text refusal)) old new = HintsIn refusal old new
TextHints (Err (n.Run stop)) old new = ⊤

-- THE CHECK. What is reported of a stop has the place of the act. Nothing is done of a source that is refused.
abbrev pub ChecksSource : Result Report NotChecked → ℕ → Option (List ℕ) → Option (List ℕ) → Bool → Streams → Streams → Type 0
ChecksSource (Ok report) turns old new ended before after =
    ChecksTrees report.verdict report.stop.at turns old new ended before after × IsPlacedIn old new report.stop × (after.passed ≡ after.taken) × (after.reads ≡ before.reads) × (after.writes ≡ before.writes)
ChecksSource (Err (n.Text refusal)) turns old new ended before after =
    NotAssembled refusal.fault old new ended × HintsIn refusal old new × (after ≡ before)
ChecksSource (Err (n.Run stop)) turns old new ended before after =
    ((trees : List Declarations) × HasTheseTrees trees old new ended × ChecksPart trees turns (checked_devices before) (checked_devices after)
    × (stop.fault ≡ x.TooDeep → ChecksDeep trees turns (checked_devices before) (checked_devices after)))
    × Blames stop.fault before.reads after.reads before.writes after.writes × Flushed stop.fault after.passed after.taken
    × IfSome stop.stop (IsPlacedIn old new)

-- After a fault of bytes the rest of its line is read, 120 bytes at most, so that the hints show the whole line. `reached` is what was read of
-- FILE before that.
abbrev pub ReadsOn : Result Report NotChecked → Result Report NotChecked → (reached file : FileRead) → Type 0
ReadsOn (Err (n.Text refusal)) said reached file =
    (whole : Refusal) × (said ≡ Err (n.Text whole)) × (whole.fault ≡ refusal.fault) × HintsIn whole file.old file.new
    × (more : List ℕ) × LineEnd reached.new file.new more × (length more ≤ 120) × (is_of_bytes refusal.fault ≡ false → file ≡ reached)
ReadsOn answer said reached file = (said ≡ answer) × (file ≡ reached)

-- ---- statuses and lines

-- STOP of 0 to 99 gives that number, STOP of any other gives 100
abbrev pub verdict_status : Verdict → ℕ
verdict_status (v.Status word) = if nat_lt word 100 then word else 100
verdict_status v.DivideByZero = 104
verdict_status v.NoStart = 108
verdict_status (v.Undefined which why) = 113
verdict_status v.Turns = 106

abbrev pub check_fault_status : CheckFault → ℕ
check_fault_status x.Memory = 111
check_fault_status x.TooDeep = 105
check_fault_status x.Read = 109
check_fault_status x.Write = 110

abbrev pub check_fault_text : CheckFault → List ℕ
check_fault_text x.Memory = codes "no memory"
check_fault_text x.TooDeep = codes "too deep"
check_fault_text x.Read = codes "read fault"
check_fault_text x.Write = codes "write fault"

abbrev pub check_status : Result Report NotChecked → ℕ
check_status (Ok report) = verdict_status report.verdict
check_status (Err (n.Text refusal)) = fault_status refusal.fault
check_status (Err (n.Run stop)) = check_fault_status stop.fault

-- ---- the texts of a report, each after the name of FILE

-- Where something is, what kind of thing it is, what it is, and further lines.
abbrev pub placed_text : List ℕ → List ℕ → List ℕ → List ℕ → List ℕ → List ℕ
placed_text file place kind what further = file ++ codes ":" ++ place ++ codes ": " ++ kind ++ what ++ 10 ∷ further

-- The line and the column are given where the text of the source is at hand, and the line alone where it is not.
abbrev pub place_or_line : Vec ℕ Global → ℕ → List ℕ
place_or_line place line = if vec_len place == 0 then decimal line else place.items

-- a notice, of this kind
abbrev pub notice_text : List ℕ → List ℕ → Notice → List ℕ
notice_text file kind notice = placed_text file (place_or_line notice.place (line_in notice.at)) kind notice.what.items notice.further.items

-- what is suspicious
abbrev pub remark_text : List ℕ → Remark → List ℕ
remark_text file remark = notice_text file (codes "suspicious: ") remark.notice

-- a fault of the source: its place and what is meant
abbrev pub hint_text : List ℕ → Vec ℕ Global → List ℕ
hint_text file hint = file ++ hint.items

-- The program's own end is reported by its status alone.
abbrev pub verdict_text : Verdict → List ℕ → Report → Option (List ℕ)
verdict_text (v.Status word) file report = None
verdict_text v.NoStart file report = Some (line_of (codes "no START"))
verdict_text v.DivideByZero file report = Some (notice_text file [] report.stop)
verdict_text (v.Undefined which why) file report = Some (notice_text file (codes "undefined: ") report.stop)
verdict_text v.Turns file report = Some (notice_text file [] report.stop)

-- where the limits of a check were reached
abbrev pub limit_text : List ℕ → Option Notice → Option (List ℕ)
limit_text file = option_map (notice_text file [])

-- These texts are reported one after another, and nothing else.
abbrev pub ReportsEach : List (List ℕ) → Output → Output → Type 0
ReportsEach [] old new = new ≡ old
ReportsEach (text ∷ texts) old new = (mid : Output) × ReportsLine text old mid × ReportsEach texts mid new

-- THE REPORT of a check, given the name of FILE. Of a fault of the source the line that each call reports comes first. What is suspicious in
-- the source comes last.
abbrev pub ReportsCheck : List ℕ → Result Report NotChecked → Output → Output → Type 0
ReportsCheck file (Ok report) old new =
    (mid : Output) × Tells (verdict_text report.verdict file report) old mid × ReportsEach (map (remark_text file) report.remarks.items) mid new
ReportsCheck file (Err (n.Text refusal)) old new =
    (mid : Output) × ReportsLine (line_of (fault_text refusal.fault)) old mid × ReportsEach (map (hint_text file) refusal.hints.items) mid new
ReportsCheck file (Err (n.Run given)) old new =
    (mid : Output) × ReportsLine (line_of (check_fault_text given.fault)) old mid × Tells (limit_text file given.stop) mid new

-- neither input nor output is touched where the source is refused
abbrev pub Untouched : {I O : Type 0} → NotChecked → I → I → O → O → Type 0
Untouched (n.Text refusal) input input' out out' = (input' ≡ input) × (out' ≡ out)
Untouched (n.Run stop) input input' out out' = ⊤
