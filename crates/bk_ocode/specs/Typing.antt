-- Statements that agree with a plan of labels. The plan says what each label is for; each statement is judged by itself, by where it
-- is, the depth before it and what the plan says of its labels.
use Rattle.std.specs.Prelude.{◌≡◌, ◌⊎◌, ℕ, ℤ, ◌+◌, ◌-◌, ◌≤◌, ◌==◌, Bool, true, false, cond, Option, Some, None, List, [], ◌∷◌, length, ⊤}
use Rattle.bk_base.specs.declared.limit.TheConstants.{FRAME_WORDS, OCODE_STATEMENTS, OCODE_WORDS}
use Rattle.bk_ocode.specs.declared.standing.StmtPlace.TheVariants.{Body}
use Rattle.bk_ocode.specs.declared.stmt.GlobalEntry.{GlobalEntry}
use Rattle.bk_ocode.specs.declared.stmt.Variable.{Variable}
use Rattle.bk_ocode.specs.declared.stmt.Variable.TheVariants.{Local, Global, Static}
use Rattle.bk_ocode.specs.declared.stmt.Stmt.{Stmt}
use Rattle.bk_ocode.specs.declared.stmt.Stmt.TheVariants.{Load, Address, Assign, Jump, JumpIf, Label, GiveResult, TakeResult, Entry, Save, ReturnItem, Return, EndProcedure, Switch, DataLabel, DataNumber, DataAddress, Globals}
use Rattle.bk_ocode.specs.Depth.{next_depth, least_depth}
use Rattle.bk_ocode.specs.Labels.{label_set, jump_labels, global_labels}
use Rattle.bk_ocode.specs.Places.{role}
use Rattle.bk_ocode.specs.StmtRange.{IsLabel, IsDepth, InRange}
use Rattle.bk_ocode.specs.Section.{IsSection}
use Rattle.bk_ocode.specs.SectionData.{text_size}

-- what a label is for
pub data Use : Type 0 where
  unused : Use
  -- jumps of the procedure with this entry, with this depth
  jumps : ℕ → ℕ → Use
  -- results in that procedure, which are taken up at this depth
  results : ℕ → ℕ → Use
  -- a word of data
  word : Use
  entry : Use

-- Where a statement is: outside of procedures, in data or not, with a depth that was left; in the procedure with this entry,
-- with this depth; or after the end.
pub data Standing : Type 0 where
  outside : Bool → ℕ → Standing
  body : ℕ → ℕ → Standing
  ended : Standing

-- the label of a static word
abbrev pub NamesWord : (ℕ → Use) → Variable → Type 0
NamesWord plan (Static l) = plan l ≡ word
NamesWord plan (Local n) = ⊤
NamesWord plan (Global n) = ⊤

abbrev pub AllJump : (ℕ → Use) → ℕ → ℕ → List ℕ → Type 0
AllJump plan p k [] = ⊤
AllJump plan p k (l ∷ ls) = (plan l ≡ jumps p k) × AllJump plan p k ls

abbrev pub AllEntries : (ℕ → Use) → List ℕ → Type 0
AllEntries plan [] = ⊤
AllEntries plan (l ∷ ls) = (plan l ≡ entry) × AllEntries plan ls

-- the labels of a statement in procedure p, with depth k before it; a LAB is no such statement
abbrev pub Agrees : (ℕ → Use) → ℕ → ℕ → Stmt → Type 0
Agrees plan p k (Load from) = NamesWord plan from
Agrees plan p k (Address of) = NamesWord plan of
Agrees plan p k (Assign to) = NamesWord plan to
Agrees plan p k (Jump l) = plan l ≡ jumps p k
Agrees plan p k (JumpIf truth l) = plan l ≡ jumps p (k - 1)
Agrees plan p k (GiveResult l) = (n : ℕ) × (plan l ≡ results p n) × (n ≤ k - 1)
Agrees plan p k (Switch default cases) = AllJump plan p (k - 1) (jump_labels (Switch default cases))
Agrees plan p k (Label l) = ⊥
Agrees plan p k _ = ⊤

-- a statement other than LAB and RSTACK, in procedure p with depth k before it
pub record Fits (plan : ℕ → Use) (p k : ℕ) (s : Stmt) : Type 0 where
  pub placed : role s ≡ Body
  pub ranged : InRange s
  pub deep : least_depth s ≤ k
  pub shallow : next_depth k s ≤ FRAME_WORDS
  pub agrees : Agrees plan p k s

-- statements one after another, from one standing to another
pub data Typed (plan : ℕ → Use) : Standing → List Stmt → Standing → Type 0 where
  done : {a : Standing} → Typed plan a [] a
  enters : {x : Bool} {k p d : ℕ} {name : List ℕ} {rest : List Stmt} {b : Standing}
      → plan p ≡ entry → InRange (Entry p name) → IsDepth d → Typed plan (body p d) rest b
      → Typed plan (outside x k) (Entry p name ∷ Save d ∷ rest) b
  goes : {p k : ℕ} {s : Stmt} {rest : List Stmt} {b : Standing} → Fits plan p k s → Typed plan (body p (next_depth k s)) rest b → Typed plan (body p k) (s ∷ rest) b
  -- a LAB that jumps find
  lands : {p k l : ℕ} {rest : List Stmt} {b : Standing} → plan l ≡ jumps p k → IsLabel l → Typed plan (body p k) rest b → Typed plan (body p k) (Label l ∷ rest) b
  -- a LAB after which a result is taken up
  takes : {p k l n : ℕ} {rest : List Stmt} {b : Standing}
      → plan l ≡ results p n → IsLabel l → 2 ≤ n → n ≤ k → n + 1 ≤ FRAME_WORDS → Typed plan (body p (n + 1)) rest b
      → Typed plan (body p k) (Label l ∷ TakeResult n ∷ rest) b
  returns : {p k : ℕ} {rest : List Stmt} {b : Standing} → Typed plan (outside false k) rest b → Typed plan (body p k) (Return ∷ EndProcedure ∷ rest) b
  gives : {p k : ℕ} {rest : List Stmt} {b : Standing} → 3 ≤ k → Typed plan (outside false (k - 1)) rest b → Typed plan (body p k) (ReturnItem ∷ EndProcedure ∷ rest) b
  begins : {x : Bool} {k l : ℕ} {rest : List Stmt} {b : Standing} → plan l ≡ word → IsLabel l → Typed plan (outside true k) rest b → Typed plan (outside x k) (DataLabel l ∷ rest) b
  holds : {k : ℕ} {v : ℤ} {rest : List Stmt} {b : Standing} → Typed plan (outside true k) rest b → Typed plan (outside true k) (DataNumber v ∷ rest) b
  points : {k l : ℕ} {rest : List Stmt} {b : Standing}
      → (plan l ≡ word) ⊎ (plan l ≡ entry) → IsLabel l → Typed plan (outside true k) rest b
      → Typed plan (outside true k) (DataAddress l ∷ rest) b
  ends : {x : Bool} {k : ℕ} {entries : List GlobalEntry} {rest : List Stmt} {b : Standing}
      → InRange (Globals entries) → AllEntries plan (global_labels (Globals entries)) → Typed plan ended rest b
      → Typed plan (outside x k) (Globals entries ∷ rest) b

-- how often statements set a label
abbrev pub sets : ℕ → Option ℕ → ℕ
sets l None = 0
sets l (Some m) = cond (l == m) 1 0

abbrev pub times_set : ℕ → List Stmt → ℕ
times_set l [] = 0
times_set l (s ∷ rest) = sets l (label_set s) + times_set l rest

-- WHAT AGREES WITH A PLAN IS A SECTION: where no label is set twice, each that the plan has is set, and neither the statements nor
-- the words of the text are too many.
abbrev pub TypedIsSection : Type 0
TypedIsSection = (plan : ℕ → Use) (stmts : List Stmt) → Typed plan (outside false 0) stmts ended → ((l : ℕ) → times_set l stmts ≤ 1)
    → ((l : ℕ) → (plan l ≡ unused → ⊥) → 1 ≤ times_set l stmts) → length stmts ≤ OCODE_STATEMENTS → text_size stmts ≤ OCODE_WORDS
    → IsSection stmts
