-- What the statements of a section leave for those after them.
use Rattle.std.specs.Prelude.{ℕ, ◌+◌, ◌-◌, ◌==◌, min, true, false, List, [], ◌∷◌, length, Option, Some, None, if◌then◌else◌}
use Rattle.bk_ocode.specs.StmtText.{stmt_words}
use Rattle.bk_ocode.specs.Depth.{next_depth}
use Rattle.bk_ocode.specs.Labels.{jump_labels, other_labels}
use Rattle.bk_ocode.specs.Places.{position_after}
use Rattle.bk_ocode.specs.declared.standing.Position.{Position}
use Rattle.bk_ocode.specs.declared.standing.Position.TheVariants as position
use Rattle.bk_ocode.specs.declared.standing.Setting.{Setting}
use Rattle.bk_ocode.specs.declared.standing.Setting.TheVariants as setting
use Rattle.bk_ocode.specs.declared.standing.Following.{Following}
use Rattle.bk_ocode.specs.declared.standing.Following.TheVariants as following
use Rattle.bk_ocode.specs.declared.standing.JumpDepths.{JumpDepths}
use Rattle.bk_ocode.specs.declared.standing.JumpDepths.TheVariants as jumps
use Rattle.bk_ocode.specs.declared.standing.LabelUse.{LabelUse}
use Rattle.bk_ocode.specs.declared.stmt.Stmt.{Stmt}
use Rattle.bk_ocode.specs.declared.stmt.Stmt.TheVariants.{Load, Address, Assign, Jump, JumpIf, Label, GiveResult, TakeResult, Entry, Switch, DataLabel, DataAddress}

pub record Context : Type 0 where
  -- how many statements and words of text there are
  pub count : ℕ
  pub words : ℕ
  -- where the next statement is, and its depth
  pub position : Position
  pub depth : ℕ
  -- how many statements there are before the procedure, or before the last one
  pub start : ℕ
  -- what is known of each label
  pub uses : ℕ → LabelUse

-- nothing is known of a label
abbrev pub fresh : LabelUse
fresh = record { setting = setting.Unset; following = following.Nothing; jumps = jumps.Unused; result = None; named = false }

-- where a section begins
abbrev pub at_start : Context
at_start = record { count = 0; words = 0; position = position.Outside; depth = 0; start = 0; uses = λ label. fresh }

-- one label's use is changed
abbrev pub changed : ℕ → (LabelUse → LabelUse) → (ℕ → LabelUse) → ℕ → LabelUse
changed label change uses other = if other == label then change (uses other) else uses other

abbrev pub all_changed : List ℕ → (LabelUse → LabelUse) → (ℕ → LabelUse) → ℕ → LabelUse
all_changed [] change uses = uses
all_changed (label ∷ rest) change uses = all_changed rest change (changed label change uses)

-- a jump comes with a depth
abbrev pub with_depth : ℕ → JumpDepths → JumpDepths
with_depth depth jumps.Unused = jumps.One depth
with_depth depth (jumps.One d) = if d == depth then jumps.One d else jumps.Several
with_depth depth jumps.Several = jumps.Several

abbrev pub jumped : ℕ → LabelUse → LabelUse
jumped depth known = record known { jumps = with_depth depth known.jumps; named = true }

-- a RES comes with the depth after it
abbrev pub least_result : ℕ → Option ℕ → Option ℕ
least_result depth None = Some depth
least_result depth (Some d) = Some (min d depth)

abbrev pub given : ℕ → LabelUse → LabelUse
given depth known = record known { result = least_result depth known.result }

abbrev pub mentioned : LabelUse → LabelUse
mentioned known = record known { named = true }

-- a statement sets the label
abbrev pub set_by : Setting → LabelUse → LabelUse
set_by what known = record known { setting = what }

-- a statement follows the label's LAB
abbrev pub what_follows : Stmt → Following
what_follows (TakeResult depth) = following.Takes depth
what_follows _ = following.Other

abbrev pub followed : Following → LabelUse → LabelUse
followed what known = record known { following = what }

abbrev pub label_followed : Position → Stmt → (ℕ → LabelUse) → ℕ → LabelUse
label_followed (position.AfterLabel label) s uses = changed label (followed (what_follows s)) uses
label_followed _ s uses = uses

-- the labels that a statement names and sets, with depth k before it and so many statements
abbrev pub labels_named : ℕ → ℕ → Stmt → (ℕ → LabelUse) → ℕ → LabelUse
labels_named k count (Label label) uses = changed label (set_by (setting.Lab k count)) uses
labels_named k count (Entry label name) uses = changed label (set_by setting.Entry) (changed label mentioned uses)
labels_named k count (DataLabel label) uses = changed label (set_by setting.Data) (changed label mentioned uses)
labels_named k count (GiveResult label) uses = changed label (given (k - 1)) uses
labels_named k count (Jump label) uses = changed label (jumped k) uses
labels_named k count (JumpIf truth label) uses = changed label (jumped (k - 1)) uses
labels_named k count (Switch default cases) uses = all_changed (jump_labels (Switch default cases)) (jumped (k - 1)) uses
labels_named k count (Load from) uses = all_changed (other_labels (Load from)) mentioned uses
labels_named k count (Address of) uses = all_changed (other_labels (Address of)) mentioned uses
labels_named k count (Assign to) uses = all_changed (other_labels (Assign to)) mentioned uses
labels_named k count (DataAddress label) uses = changed label mentioned uses
labels_named k count _ uses = uses

-- the procedure begins at its ENTRY
abbrev pub start_from : ℕ → ℕ → Stmt → ℕ
start_from count start (Entry label name) = count
start_from count start _ = start

abbrev pub start_after : Context → Stmt → ℕ
start_after c s = start_from c.count c.start s

-- what is left after one statement more
abbrev pub after : Context → Stmt → Context
after c s = record {
  count = c.count + 1;
  words = c.words + length (stmt_words s);
  position = position_after s;
  depth = next_depth c.depth s;
  start = start_after c s;
  uses = labels_named c.depth c.count s (label_followed c.position s c.uses);
}

-- and after several
abbrev pub after_all : Context → List Stmt → Context
after_all c [] = c
after_all c (s ∷ rest) = after_all (after c s) rest

-- what statements leave where a section begins with them
abbrev pub context_of : List Stmt → Context
context_of stmts = after_all at_start stmts
