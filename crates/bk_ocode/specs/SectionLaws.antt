-- Laws of accepted sections, for the layers above.
use Rattle.std.specs.Prelude.{◌≡◌, ◌⊎◌, ℕ, ◌-◌, ◌<◌, ◌≤◌, List, [], ◌∷◌, ◌++◌, length, Some, slice_get, take, drop}
use Rattle.bk_base.specs.declared.limit.TheConstants.{FRAME_WORDS, OCODE_STATEMENTS, OCODE_WORDS}
use Rattle.bk_ocode.specs.Depth.{next_depth, depth_after, least_depth}
use Rattle.bk_ocode.specs.Labels.{label_set, jump_labels, data_labels, global_labels}
use Rattle.bk_ocode.specs.Section.{AreFaultless, IsSection}
use Rattle.bk_ocode.specs.OcodeStep.{from_label}
use Rattle.bk_ocode.specs.SectionData.{text_size}
use Rattle.bk_ocode.specs.declared.stmt.GlobalEntry.{GlobalEntry}
use Rattle.bk_ocode.specs.declared.stmt.Stmt.{Stmt}
use Rattle.bk_ocode.specs.declared.stmt.Stmt.TheVariants.{Label, Jump, JumpIf, Switch, GiveResult, Entry, DataLabel, DataAddress, Globals}

-- No label is set twice.
abbrev pub LabelsAreSetOnce : Type 0
LabelsAreSetOnce = (stmts : List Stmt) (i j label : ℕ) (s t : Stmt) → AreFaultless stmts → slice_get stmts i ≡ Some s → slice_get stmts j ≡ Some t →
    label_set s ≡ Some label → label_set t ≡ Some label → i ≡ j

-- So a jump goes on at the one LAB of its label.
abbrev pub LabelHasOnePlace : Type 0
LabelHasOnePlace = (stmts : List Stmt) (i label : ℕ) → AreFaultless stmts → slice_get stmts i ≡ Some (Label label) → from_label stmts label ≡ Some (drop i stmts)

-- the depth with which a jump goes to its labels, k being the depth before it
abbrev pub jump_depth : ℕ → Stmt → ℕ
jump_depth k (Jump label) = k
jump_depth k (JumpIf truth label) = k - 1
jump_depth k (Switch default cases) = k - 1
jump_depth k _ = k

abbrev pub IsAmong : ℕ → List ℕ → Type 0
IsAmong label [] = ⊥
IsAmong label (l ∷ rest) = (l ≡ label) ⊎ IsAmong label rest

-- A jump and the LAB of one of its labels have one depth, whichever comes first.
abbrev pub JumpHasItsLabelsDepth : Type 0
JumpHasItsLabelsDepth = (stmts : List Stmt) (i j label : ℕ) (s : Stmt) → AreFaultless stmts → slice_get stmts i ≡ Some s → IsAmong label (jump_labels s) →
    slice_get stmts j ≡ Some (Label label) → jump_depth (depth_after 0 (take i stmts)) s ≡ depth_after 0 (take j stmts)

-- Each label of a jump is set by a LAB of the section.
abbrev pub JumpFindsItsLabel : Type 0
JumpFindsItsLabel = (stmts : List Stmt) (i label : ℕ) (s : Stmt) → IsSection stmts → slice_get stmts i ≡ Some s → IsAmong label (jump_labels s) →
    (place : ℕ) × (slice_get stmts place ≡ Some (Label label))

-- Each statement has the depth that it needs, and no depth passes the limit of frames.
abbrev pub DepthsSuffice : Type 0
DepthsSuffice = (stmts : List Stmt) (i : ℕ) (s : Stmt) → AreFaultless stmts → slice_get stmts i ≡ Some s →
    (least_depth s ≤ depth_after 0 (take i stmts)) × (next_depth (depth_after 0 (take i stmts)) s ≤ FRAME_WORDS)

-- There are no more statements than the limit.
abbrev pub SectionIsShort : Type 0
SectionIsShort = (stmts : List Stmt) (i : ℕ) (s : Stmt) → AreFaultless stmts → slice_get stmts i ≡ Some s → i < OCODE_STATEMENTS

-- So is that of a RES.
abbrev pub ResultFindsItsLabel : Type 0
ResultFindsItsLabel = (stmts : List Stmt) (i label : ℕ) → IsSection stmts → slice_get stmts i ≡ Some (GiveResult label) →
    (place : ℕ) × (slice_get stmts place ≡ Some (Label label))

-- Each label of LL, SL and LLL is set by a DATALAB,
abbrev pub DataFindsItsLabel : Type 0
DataFindsItsLabel = (stmts : List Stmt) (i label : ℕ) (s : Stmt) → IsSection stmts → slice_get stmts i ≡ Some s → IsAmong label (data_labels s) →
    (place : ℕ) × (slice_get stmts place ≡ Some (DataLabel label))

-- that of an ITEML by a DATALAB or an ENTRY,
abbrev pub ItemFindsItsLabel : Type 0
ItemFindsItsLabel = (stmts : List Stmt) (i label : ℕ) → IsSection stmts → slice_get stmts i ≡ Some (DataAddress label) →
    (place : ℕ) × ((slice_get stmts place ≡ Some (DataLabel label)) ⊎ ((name : List ℕ) × (slice_get stmts place ≡ Some (Entry label name))))

-- and each of GLOBAL by an ENTRY.
abbrev pub GlobalFindsItsEntry : Type 0
GlobalFindsItsEntry = (stmts : List Stmt) (i label : ℕ) (entries : List GlobalEntry) → IsSection stmts → slice_get stmts i ≡ Some (Globals entries) →
    IsAmong label (global_labels (Globals entries)) → (place : ℕ) × (name : List ℕ) × (slice_get stmts place ≡ Some (Entry label name))

-- GLOBAL is last.
abbrev pub GlobalIsLast : Type 0
GlobalIsLast = (stmts : List Stmt) → IsSection stmts → (front : List Stmt) × (entries : List GlobalEntry) × (stmts ≡ front ++ Globals entries ∷ [])

-- The text has no more statements and no more words than their limits.
abbrev pub TextIsShort : Type 0
TextIsShort = (stmts : List Stmt) → AreFaultless stmts → (length stmts ≤ OCODE_STATEMENTS) × (text_size stmts ≤ OCODE_WORDS)
