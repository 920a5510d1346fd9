-- Which labels a statement sets and names.
use Rattle.std.specs.Prelude.{ℕ, List, [], ◌∷◌, ◌++◌, map, Option, Some, None}
use Rattle.bk_ocode.specs.declared.stmt.Variable.{Variable}
use Rattle.bk_ocode.specs.declared.stmt.Variable.TheVariants.{Local, Global, Static}
use Rattle.bk_ocode.specs.declared.stmt.Stmt.{Stmt}
use Rattle.bk_ocode.specs.declared.stmt.Stmt.TheVariants.{Load, Address, Assign, Jump, JumpIf, Label, GiveResult, Entry, Switch, DataLabel, DataAddress, Globals}

-- the label that a statement sets: LAB, ENTRY and DATALAB do
abbrev pub label_set : Stmt → Option ℕ
label_set (Label label) = Some label
label_set (Entry label name) = Some label
label_set (DataLabel label) = Some label
label_set _ = None

-- the labels to which a statement jumps, save RES
abbrev pub jump_labels : Stmt → List ℕ
jump_labels (Jump label) = label ∷ []
jump_labels (JumpIf truth label) = label ∷ []
jump_labels (Switch default cases) = default ∷ map (λ c. c.label) cases
jump_labels _ = []

-- the label to which a RES jumps
abbrev pub result_label : Stmt → List ℕ
result_label (GiveResult label) = label ∷ []
result_label _ = []

-- the label of the word of data that LL, SL and LLL name
abbrev pub static_label : Variable → List ℕ
static_label (Local slot) = []
static_label (Global number) = []
static_label (Static label) = label ∷ []

abbrev pub data_labels : Stmt → List ℕ
data_labels (Load from) = static_label from
data_labels (Address of) = static_label of
data_labels (Assign to) = static_label to
data_labels _ = []

-- the label that ITEML names
abbrev pub item_label : Stmt → List ℕ
item_label (DataAddress label) = label ∷ []
item_label _ = []

-- the labels of entries that GLOBAL names
abbrev pub global_labels : Stmt → List ℕ
global_labels (Globals entries) = map (λ e. e.label) entries
global_labels _ = []

-- the labels that ENTRY and DATALAB set
abbrev pub outer_label : Stmt → List ℕ
outer_label (Entry label name) = label ∷ []
outer_label (DataLabel label) = label ∷ []
outer_label _ = []

-- all labels that a statement names, save those of RES and LAB
abbrev pub other_labels : Stmt → List ℕ
other_labels s = jump_labels s ++ (data_labels s ++ (item_label s ++ (global_labels s ++ outer_label s)))
