-- Where the code of each form is laid: of this expression or command, with these names in scope, from these statements on before
-- those. A jump has its LAB, a string and a table their object, a call its place.
use Rattle.bk_simulation.proofs.Words.{◌≡◌, ℕ, suc, ◌+◌, ◌-◌, ◌<◌, ◌≤◌, ◌^◌, Bool, true, false, not, List, [], ◌∷◌, ◌++◌, length, Option, Some, cond, FRAME_WORDS, first_bytes, signed, Operator, Expression, Expressions, Command, Commands, Declaration, Declarations, Definitions, Starts, Bound, Binding, bound_in, bind, labels_of_each, labels_in_scope, depth_after, Placed, global_place, from_label, case_label, Program, Local, Global, Static, Case, Stmt, Number, Query, Load, Address, Text, Monadic, Dyadic, Assign, AssignAt, AssignByte, Jump, JumpIf, Label, GiveResult, TakeResult, Stack, Store, CallFunction, CallRoutine, Return, Switch, Finish, Goal, Around, Target, meant, goal_in, variable, push, infix_code, truth_value, go, test_of_step, valued, looping, switching, Environment, Sense, constant, cell, sense_of, constant_in, following, past, past_each, past_command, past_definition, labelled, within_let, constants_declared, letters, objects_of_definitions, step_of, Sought, the_label, the_case, the_default, Mode, forwards, seeking, same_place, has_place, one_has_place, alone, IsWellPlaced, slice_get, take, drop}
use Rattle.bk_simulation.proofs.Terms.{Operator as o, Prefix as q, Simple as k, Bound as b, Variable, Variable as Named, Dyadic as two, Monadic as w}
use Rattle.bk_tree.specs.Tree as t
use Rattle.bk_meaning.specs.Environment as m
use Rattle.bk_simulation.proofs.Memory.{Codes, BaseOf, Grown}
use Rattle.bk_simulation.proofs.Weights.{turns_of, turns_in, turns_through}

-- What the whole proof is over: the program, the words of procedures, what a step pays, how many frames there may be, and the bases of
-- the objects that last.
pub record Setting : Type 0 where
  pub program : Program
  pub first : ℕ
  pub well : IsWellPlaced program first FRAME_WORDS
  pub codes : Codes
  pub pay : ℕ
  pub cap : ℕ
  pub lasting : List ℕ
  pub lasting_low : (o base : ℕ) → BaseOf lasting o base → base < 2 ^ 32
  pub vector : BaseOf lasting 0 16

-- which exits there are
pub record Exits : Type 0 where
  pub loop : Bool
  pub switch : Bool

-- What stands around code: its section, the names in scope there, and where exits lead.
pub record Scene : Type 0 where
  pub section : ℕ
  pub own : Placed
  pub targets : List Target
  pub bindings : List Binding
  pub procedure : ℕ
  pub around : Around
  pub exits : Exits

abbrev pub in_valof : ℕ → Scene → Scene
in_valof l sc = record sc { around = valued l; exits = record { loop = false; switch = false } }

abbrev pub in_loop : ℕ → ℕ → ℕ → Scene → Scene
in_loop again out depth sc = record sc { around = looping again out depth sc.around; exits = record { loop = true; switch = sc.exits.switch } }

abbrev pub in_switch : ℕ → ℕ → Scene → Scene
in_switch out depth sc = record sc { around = switching out depth sc.around; exits = record { loop = sc.exits.loop; switch = true } }

-- in the body of a FOR, whose variable is the word at this depth
abbrev pub in_for : ℕ → ℕ → ℕ → List ℕ → Scene → Scene
in_for again out depth x sc = record (in_loop again out (depth + 2) sc) { bindings = bind x (b.Variable sc.procedure depth) sc.bindings }

-- what a name means, the word that it names, and where a GOTO of it leads
abbrev pub named_word : Scene → List ℕ → Variable
named_word sc x = variable sc.targets (meant (bound_in sc.bindings x))

abbrev pub goal_named : Scene → List ℕ → Goal
goal_named sc x = goal_in sc.targets (meant (bound_in sc.bindings x))

abbrev pub IsLabelHere : Option Bound → Type 0
IsLabelHere (Some (b.Label j m)) = Unit {0}
IsLabelHere _ = ⊥

-- the place of the word that a statement names
abbrev pub place_of : Placed → ℕ → Named → ℕ
place_of own frame (Local n) = frame + n
place_of own frame (Global n) = global_place n
place_of own frame (Static l) = own.places.label l

abbrev pub IsWord : Option Bound → Type 0
IsWord (Some (b.Global (Some n))) = Unit {0}
IsWord (Some (b.Static m)) = Unit {0}
IsWord (Some (b.Variable k i)) = Unit {0}
IsWord _ = ⊥

-- What a name means in scope, and what it means in the run.
abbrev pub NameAt : Scene → List ℕ → ℕ → List ℕ → Option Sense → Type 0
NameAt sc bases frame x (Some (constant n)) = (bound_in sc.bindings x ≡ Some (b.Constant (Some n))) × (n < 2 ^ 32)
NameAt sc bases frame x (Some (cell o i)) = (base : ℕ) × BaseOf bases o base × (base + i < 2 ^ 32) × (base + i ≡ place_of sc.own frame (named_word sc x)) × IsWord (bound_in sc.bindings x)
NameAt sc bases frame x _ = Unit {0}

pub record NamedIn (sc : Scene) (env : Environment) (bases : List ℕ) (frame : ℕ) : Type 0 where
  pub each : (x : List ℕ) → NameAt sc bases frame x (sense_of x env)

-- ---- declarations

-- names that are no labels hide none
abbrev pub KeepsLabels : List Binding → List Binding → Type 0
KeepsLabels old new = (x : List ℕ) → IsLabelHere (bound_in new x) → bound_in new x ≡ bound_in old x

-- a variable, and the slot of its word
pub record Spot : Type 0 where
  pub name : List ℕ
  pub slot : ℕ

abbrev pub spots_of : List (List ℕ) → List ℕ → List Spot
spots_of (x ∷ xs) (n ∷ ns) = record { name = x; slot = n } ∷ spots_of xs ns
spots_of _ _ = []

-- they are objects of one cell, with numbers from o on
abbrev pub variables_bound : ℕ → List Spot → Environment → Environment
variables_bound o [] env = env
variables_bound o (p ∷ ps) env = variables_bound (suc o) ps (m.bind p.name (cell o 0) env)

abbrev pub AreAt : List ℕ → ℕ → ℕ → List Spot → Type 0
AreAt bases o frame [] = Unit {0}
AreAt bases o frame (p ∷ ps) = BaseOf bases o (frame + p.slot) × AreAt bases (suc o) frame ps

-- STORE stands behind a LET that has variables
abbrev pub defines_variables : Definitions → Bool
defines_variables t.no_definitions = false
defines_variables (t.define (t.variables l xs is) ds) = true
defines_variables (t.define d ds) = defines_variables ds

-- other names mean what they should where the bindings are these
abbrev pub Renames : Setting → Scene → Environment → List Binding → Environment → Type 0
Renames setting sc env bs env1 = KeepsLabels sc.bindings bs × ((bases : List ℕ) (frame : ℕ) → Grown setting.lasting bases → NamedIn sc env bases frame → NamedIn (record sc { bindings = bs }) env1 bases frame)

-- so do the variables of a LET
abbrev pub RenamesVariables : Scene → List Binding → Environment → List Binding → List Spot → Environment → Type 0
RenamesVariables sc bl env bs ps env1 =
    KeepsLabels sc.bindings bs
    × ((o : ℕ) (bases : List ℕ) (frame : ℕ) → frame ≤ 2 ^ 31 - 65536 → AreAt bases o frame ps → NamedIn (record sc { bindings = bl }) env bases frame → NamedIn (record sc { bindings = bs }) (variables_bound o ps env1) bases frame)

-- the LAB of a label, with these statements behind it and this depth
pub record LabelAt (setting : Setting) (sc : Scene) (depth label : ℕ) (rest : List Stmt) : Type 0 where
  pub is_own : slice_get setting.program.sections sc.section ≡ Some sc.own
  pub place : ℕ
  pub at : slice_get sc.own.stmts place ≡ Some (Label label)
  pub same_depth : depth_after 0 (take place sc.own.stmts) ≡ depth
  pub following : drop (suc place) sc.own.stmts ≡ rest
  pub found : from_label sc.own.stmts label ≡ Some (Label label ∷ rest)

-- a call, with these statements behind it
pub record CallAt (setting : Setting) (sc : Scene) (call : Stmt) (rest : List Stmt) : Type 0 where
  pub is_own : slice_get setting.program.sections sc.section ≡ Some sc.own
  pub place : ℕ
  pub at : slice_get sc.own.stmts place ≡ Some call
  pub following : drop (suc place) sc.own.stmts ≡ rest

abbrev pub count : Expressions → ℕ
count t.none = 0
count (t.more e es) = count es + 1

-- What code is for: a value is pushed, or a jump is made where the truth is that.
pub data Aim : Type 0 where
  pushes : Aim
  jumps : (truth : Bool) (label : ℕ) → Aim

-- how an operator is gone through for it
pub data Evaluation : Type 0 where
  all_of : (truth : Bool) (label : ℕ) → Evaluation
  any_of : (truth : Bool) (label : ℕ) → Evaluation
  plain : Evaluation

abbrev pub evaluation_of : Aim → Operator → Evaluation
evaluation_of (jumps u n) o.Both = all_of u n
evaluation_of (jumps u n) o.Either = any_of u n
evaluation_of _ _ = plain

-- what stands behind the value
abbrev pub ending : Aim → List Stmt → List Stmt
ending pushes rest = rest
ending (jumps u n) rest = JumpIf u n ∷ rest

-- the labels of a scope's commands, with numbers from j on
abbrev pub owning : ℕ → Commands → Scene → Scene
owning j cs sc = record sc { bindings = labels_in_scope sc.procedure j (labels_of_each cs) sc.bindings }

-- a GOTO of this name leads here, at this depth
abbrev pub LeadsTo : Scene → ℕ → List ℕ → List Stmt → Type 0
LeadsTo sc d x to = (from_label sc.own.stmts (goal_named sc x).label ≡ Some to) × ((goal_named sc x).depth ≡ d)

-- a place that may be sought, and what stands behind it
abbrev pub PlaceOf : Setting → Scene → ℕ → Sought → ((Sought → List Stmt) → List Stmt → Type 0) → (Sought → List Stmt) → List Stmt → Type 0
PlaceOf setting sc d here inner at c =
    (n : ℕ) × (c1 : List Stmt) × (at1 : Sought → List Stmt) × (c ≡ Label n ∷ c1) × inner at1 c1 × LabelAt setting sc d n c1 × ((s : Sought) → at s ≡ cond (same_place s here) c (at1 s))

-- one command as a scope, whose labels have numbers from j on; a GOTO to one of them leads to it
abbrev pub OneScope : Setting → Scene → ℕ → Environment → Command → ℕ → ((Sought → List Stmt) → List Stmt → Type 0) → List Stmt → Type 0
OneScope setting sc d env a j inner rest =
    (at : Sought → List Stmt)
    × ((c1 : List Stmt) × (at1 at2 : Sought → List Stmt) × inner at1 c1 × (c1 ≡ rest) × ((s : Sought) → at s ≡ cond (has_place s (labelled (alone a) env) a) (at1 s) (at2 s)))
    × (turns_through false (alone a) ≤ setting.pay)
    × ((x : List ℕ) → one_has_place (the_label x) env (alone a) ≡ true → LeadsTo (owning j (alone a) sc) d x (at (the_label x)))

-- statements, and those behind them
pub record Stretch : Type 0 where
  pub from : List Stmt
  pub to : List Stmt

-- values and where they are stored, one after another
abbrev pub ByTurns : Expressions → Expressions → List Stretch → List Stretch → List Stmt → List Stmt → Type 0
ByTurns (t.more x xs) (t.more e es) (v ∷ vs) (s ∷ ss) c rest = (c ≡ v.from) × (v.to ≡ s.from) × ByTurns xs es vs ss s.to rest
ByTurns t.none t.none vs ss c rest = c ≡ rest
ByTurns _ _ vs ss c rest = ⊥

-- two operands; `&` and `|` go on only until the truth is known
abbrev pub Operands : Setting → Scene → ℕ → Evaluation → Aim → Operator → (Aim → List Stmt → List Stmt → Type 0) → (ℕ → Aim → List Stmt → List Stmt → Type 0) → List Stmt → List Stmt → Type 0
Operands setting sc d (all_of false n) aim f X Y c rest = (c1 : List Stmt) × X (jumps false n) c c1 × Y d (jumps false n) c1 rest
Operands setting sc d (all_of true n) aim f X Y c rest = (k : ℕ) × (c1 : List Stmt) × X (jumps false k) c c1 × Y d (jumps true n) c1 (Label k ∷ rest) × LabelAt setting sc d k rest
Operands setting sc d (any_of true n) aim f X Y c rest = (c1 : List Stmt) × X (jumps true n) c c1 × Y d (jumps true n) c1 rest
Operands setting sc d (any_of false n) aim f X Y c rest = (k : ℕ) × (c1 : List Stmt) × X (jumps true k) c c1 × Y d (jumps false n) c1 (Label k ∷ rest) × LabelAt setting sc d k rest
Operands setting sc d plain aim f X Y c rest = (c1 : List Stmt) × X pushes c c1 × Y (d + 1) pushes c1 (infix_code f ++ ending aim rest)

abbrev mutual
  -- an expression, for its value or for a jump
  pub IsCode : Setting → Scene → ℕ → Environment → Aim → Expression → List Stmt → List Stmt → Type 0
  IsCode setting sc d env aim (t.name l x) c rest = c ≡ push sc.targets (meant (bound_in sc.bindings x)) ∷ ending aim rest
  IsCode setting sc d env aim (t.number l n) c rest = (c ≡ Number (signed n) ∷ ending aim rest) × (n < 2 ^ 32)
  IsCode setting sc d env aim (t.text l x) c rest = (c ≡ Text (first_bytes x) ∷ ending aim rest) × BaseOf setting.lasting env.next (sc.own.places.text (length (ending aim rest)))
  IsCode setting sc d env aim (t.truth l x) c rest = c ≡ truth_value x ∷ ending aim rest
  IsCode setting sc d env aim (t.query l) c rest = c ≡ Query ∷ ending aim rest
  IsCode setting sc d env aim (t.parens l e) c rest = IsCode setting sc d env aim e c rest
  IsCode setting sc d env aim (t.unary l q.Address e) c rest = IsAddress setting sc d env e c (ending aim rest)
  IsCode setting sc d env aim (t.unary l q.Contents e) c rest = IsCode setting sc d env pushes e c (Monadic w.Contents ∷ ending aim rest)
  IsCode setting sc d env aim (t.unary l q.Plus e) c rest = IsCode setting sc d env pushes e c (ending aim rest)
  IsCode setting sc d env aim (t.unary l q.Minus e) c rest = IsCode setting sc d env pushes e c (Monadic w.Negate ∷ ending aim rest)
  IsCode setting sc d env pushes (t.unary l q.Not e) c rest = IsCode setting sc d env pushes e c (Monadic w.Not ∷ rest)
  IsCode setting sc d env (jumps u n) (t.unary l q.Not e) c rest = IsCode setting sc d env (jumps (not u) n) e c rest
  IsCode setting sc d env aim (t.binary l f m x y) c rest = Operands setting sc d (evaluation_of aim f) aim f (λ ai c0 r0. IsCode setting sc d env ai x c0 r0) (λ d0 ai c0 r0. IsCode setting sc d0 (past x env) ai y c0 r0) c rest
  IsCode setting sc d env aim (t.choice l m e x y) c rest =
      (n n1 : ℕ) × (c1 c2 : List Stmt) × IsCode setting sc d env (jumps false n) e c c1 × IsCode setting sc d (past e env) pushes x c1 (GiveResult n1 ∷ Label n ∷ c2)
      × IsCode setting sc d (past x (past e env)) pushes y c2 (GiveResult n1 ∷ Label n1 ∷ TakeResult d ∷ ending aim rest)
      × LabelAt setting sc d n c2 × LabelAt setting sc d n1 (TakeResult d ∷ ending aim rest)
  IsCode setting sc d env aim (t.apply l m f es) c rest =
      (c1 c2 : List Stmt) × (c ≡ Stack (d + 2) ∷ c1) × AreValues setting sc (d + 2) (past f env) es c1 c2 × IsCode setting sc (d + 2 + count es) env pushes f c2 (CallFunction d ∷ ending aim rest)
      × CallAt setting sc (CallFunction d) (ending aim rest) × (d + 2 + count es + 1 ≤ FRAME_WORDS)
  IsCode setting sc d env aim (t.valof l x) c rest =
      (n j : ℕ) × OneScope setting (in_valof n sc) d env x j (λ at1 c1. IsAct setting (owning j (alone x) (in_valof n sc)) d (labelled (alone x) env) x at1 c c1) (Label n ∷ TakeResult d ∷ ending aim rest) × LabelAt setting sc d n (TakeResult d ∷ ending aim rest)
  IsCode setting sc d env aim (t.table l es) c rest = (n : ℕ) × (c ≡ Address (Static n) ∷ ending aim rest) × BaseOf setting.lasting env.next (sc.own.places.label n)

  -- several, one above another
  pub AreValues : Setting → Scene → ℕ → Environment → Expressions → List Stmt → List Stmt → Type 0
  AreValues setting sc d env t.none c rest = c ≡ rest
  AreValues setting sc d env (t.more e es) c rest = (c1 : List Stmt) × IsCode setting sc d env pushes e c c1 × AreValues setting sc (d + 1) (past e env) es c1 rest

  -- an address is pushed
  pub IsAddress : Setting → Scene → ℕ → Environment → Expression → List Stmt → List Stmt → Type 0
  IsAddress setting sc d env (t.name l x) c rest = c ≡ Address (named_word sc x) ∷ rest
  IsAddress setting sc d env (t.parens l e) c rest = IsAddress setting sc d env e c rest
  IsAddress setting sc d env (t.unary l q.Contents e) c rest = IsCode setting sc d env pushes e c rest
  IsAddress setting sc d env (t.binary l o.Subscript m x y) c rest =
      (c1 : List Stmt) × IsCode setting sc d env pushes x c c1 × IsCode setting sc (d + 1) (past x env) pushes y c1 (Dyadic two.Add ∷ rest)
  IsAddress setting sc d env _ c rest = ⊥

  -- several, all at one depth, each in a stretch of its own; and where they are stored
  pub AreFrom : Setting → Scene → ℕ → Environment → Expressions → List Stretch → Type 0
  AreFrom setting sc d env (t.more e es) (v ∷ vs) = IsCode setting sc d env pushes e v.from v.to × AreFrom setting sc d (past e env) es vs
  AreFrom setting sc d env _ vs = Unit {0}

  pub AreStores : Setting → Scene → ℕ → Environment → Expressions → List Stretch → Type 0
  AreStores setting sc d env (t.more e es) (v ∷ vs) = IsStore setting sc d env e v.from v.to × AreStores setting sc d (past e env) es vs
  AreStores setting sc d env _ vs = Unit {0}

  -- the value on top, below depth d, is stored
  pub IsStore : Setting → Scene → ℕ → Environment → Expression → List Stmt → List Stmt → Type 0
  IsStore setting sc d env (t.name l x) c rest = c ≡ Assign (named_word sc x) ∷ rest
  IsStore setting sc d env (t.parens l e) c rest = IsStore setting sc d env e c rest
  IsStore setting sc d env (t.unary l q.Contents e) c rest = IsCode setting sc d env pushes e c (AssignAt ∷ rest)
  IsStore setting sc d env (t.binary l o.Subscript m x y) c rest =
      (c1 : List Stmt) × IsCode setting sc d env pushes x c c1 × IsCode setting sc (d + 1) (past x env) pushes y c1 (Dyadic two.Add ∷ AssignAt ∷ rest)
  IsStore setting sc d env (t.binary l o.Byte m x y) c rest =
      (c1 : List Stmt) × IsCode setting sc d env pushes x c c1 × IsCode setting sc (d + 1) (past x env) pushes y c1 (AssignByte ∷ rest)
  IsStore setting sc d env _ c rest = ⊥

  -- A command: `at` says where the places in it are that may be sought.
  pub IsAct : Setting → Scene → ℕ → Environment → Command → (Sought → List Stmt) → List Stmt → List Stmt → Type 0
  IsAct setting sc d env t.empty at c rest = c ≡ rest
  IsAct setting sc d env (t.assign l xs es) at c rest = (vs ss : List Stretch) × AreFrom setting sc d (past_each xs env) es vs × AreStores setting sc (d + 1) env xs ss × ByTurns xs es vs ss c rest
  IsAct setting sc d env (t.call l f es) at c rest =
      (c1 c2 : List Stmt) × (c ≡ Stack (d + 2) ∷ c1) × AreValues setting sc (d + 2) (past f env) es c1 c2 × IsCode setting sc (d + 2 + count es) env pushes f c2 (CallRoutine d ∷ rest)
      × CallAt setting sc (CallRoutine d) rest × (d + 2 + count es + 1 ≤ FRAME_WORDS)
  IsAct setting sc d env (t.goto l x) at c rest = (c ≡ go (goal_named sc x.letters) d ++ rest) × IsLabelHere (bound_in sc.bindings x.letters)
  IsAct setting sc d env (t.label l x a) at c rest = PlaceOf setting sc d (the_label x) (λ at1 c1. IsAct setting sc d env a at1 c1 rest) at c
  IsAct setting sc d env (t.case_of l e a) at c rest = PlaceOf setting sc d (the_case (constant_in env e)) (λ at1 c1. IsAct setting sc d env a at1 c1 rest) at c
  IsAct setting sc d env (t.default l a) at c rest = PlaceOf setting sc d the_default (λ at1 c1. IsAct setting sc d env a at1 c1 rest) at c
  IsAct setting sc d env (t.when l u e a) at c rest =
      (n : ℕ) × (c1 : List Stmt) × IsCode setting sc d env (jumps (not u) n) e c c1 × IsAct setting sc d (past e env) a at c1 (Label n ∷ rest) × LabelAt setting sc d n rest
  IsAct setting sc d env (t.test l e x y) at c rest =
      (n n1 : ℕ) × (c1 c2 : List Stmt) × (at1 at2 : Sought → List Stmt) × IsCode setting sc d env (jumps false n) e c c1 × IsAct setting sc d (past e env) x at1 c1 (Jump n1 ∷ Label n ∷ c2)
      × IsAct setting sc d (past_command x (past e env)) y at2 c2 (Label n1 ∷ rest) × LabelAt setting sc d n c2 × LabelAt setting sc d n1 rest
      × ((s : Sought) → at s ≡ cond (has_place s env x) (at1 s) (at2 s))
  IsAct setting sc d env (t.while l u e a) at c rest =
      (n n1 n2 : ℕ) × (body test : List Stmt) × (c ≡ Jump n ∷ Label n1 ∷ body) × IsAct setting (in_loop n n2 d sc) d (past e env) a at body (Label n ∷ test)
      × IsCode setting sc d env (jumps u n1) e test (Label n2 ∷ rest) × LabelAt setting sc d n test × LabelAt setting sc d n1 body × LabelAt setting sc d n2 rest
      × (suc (turns_of false e + turns_in false a) ≤ setting.pay)
  IsAct setting sc d env (t.for_loop l x a y h e) at c rest =
      (n n1 n2 n3 k j : ℕ) × (c1 body test : List Stmt) × IsCode setting sc d env pushes a c c1 × IsCode setting sc (d + 1) (past a env) pushes y c1 (Store ∷ Jump n ∷ Label n1 ∷ body)
      × ((object : ℕ) → 0 < object →
      let inside : Scene = in_for n2 n3 d x.letters sc in
      let there : Environment = m.bind x.letters (cell object 0) (past y (past a env)) in
      OneScope setting inside (d + 2) there e j (λ at1 c2. IsAct setting (owning j (alone e) inside) (d + 2) (labelled (alone e) there) e at1 body c2)
      (Label n2 ∷ Load (Local d) ∷ Number (signed k) ∷ Dyadic two.Add ∷ Assign (Local d) ∷ Label n ∷ test))
      × (test ≡ Load (Local d) ∷ Load (Local (d + 1)) ∷ test_of_step k ∷ JumpIf true n1 ∷ Label n3 ∷ Stack d ∷ rest)
      × (step_of env h ≡ Some k) × LabelAt setting sc (d + 2) n test × LabelAt setting sc (d + 2) n1 body
      × LabelAt setting sc (d + 2) n2 (Load (Local d) ∷ Number (signed k) ∷ Dyadic two.Add ∷ Assign (Local d) ∷ Label n ∷ test) × LabelAt setting sc (d + 2) n3 (Stack d ∷ rest)
      × (d + 2 ≤ FRAME_WORDS) × (suc (turns_in false e) ≤ setting.pay) × (k < 2 ^ 32)
  IsAct setting sc d env (t.switch l e a) at c rest =
      (n other : ℕ) × (cs : List Case) × (c1 : List Stmt) × IsCode setting sc d env pushes e c (Switch other cs ∷ c1) × IsAct setting (in_switch n d sc) d (past e env) a at c1 (Label n ∷ rest) × LabelAt setting sc d n rest
      × ((w : ℕ) → has_place (the_case (Some w)) (past e env) a ≡ true → from_label sc.own.stmts (case_label cs other w) ≡ Some (at (the_case (Some w))))
      × ((w : ℕ) → has_place (the_case (Some w)) (past e env) a ≡ false → has_place the_default (past e env) a ≡ true → from_label sc.own.stmts (case_label cs other w) ≡ Some (at the_default))
      × ((w : ℕ) → has_place (the_case (Some w)) (past e env) a ≡ false → has_place the_default (past e env) a ≡ false → case_label cs other w ≡ n)
  IsAct setting sc d env (t.result l e) at c rest =
      (to : List Stmt) × IsCode setting sc d env pushes e c (GiveResult sc.around.valof ∷ rest) × (from_label sc.own.stmts sc.around.valof ≡ Some to)
  IsAct setting sc d env (t.simple l k.Break) at c rest = (c ≡ go sc.around.leaves d ++ rest) × (sc.exits.loop ≡ true)
  IsAct setting sc d env (t.simple l k.Loop) at c rest = (c ≡ go sc.around.goes_on d ++ rest) × (sc.exits.loop ≡ true)
  IsAct setting sc d env (t.simple l k.EndCase) at c rest = (c ≡ go sc.around.ends_case d ++ rest) × (sc.exits.switch ≡ true)
  IsAct setting sc d env (t.simple l k.Return) at c rest = c ≡ Return ∷ rest
  IsAct setting sc d env (t.simple l k.Finish) at c rest = c ≡ Finish ∷ rest
  IsAct setting sc d env (t.block l t.no_declarations cs) at c rest = AreActs setting sc d env cs at c rest
  IsAct setting sc d env (t.block l (t.declare h hs) cs) at c rest =
      IsOneDeclared setting sc d env h (λ sc0 d0 env0 c0. AreDeclared setting sc0 d0 env0 hs (λ sc1 d1 env1 c1.
      (j : ℕ) × (at1 : Sought → List Stmt) × AreActs setting (owning j cs sc1) d1 (labelled cs env1) cs at1 c1 (Stack d ∷ rest) × (turns_through false cs ≤ setting.pay)
      × ((x : List ℕ) → one_has_place (the_label x) env1 cs ≡ true → LeadsTo (owning j cs sc1) d1 x (at1 (the_label x)))) c0) c
  IsAct setting sc d env (t.repeat l a) at c rest =
      (n n1 : ℕ) × (body : List Stmt) × (c ≡ Label n ∷ body) × IsAct setting (in_loop n n1 d sc) d env a at body (Jump n ∷ Label n1 ∷ rest) × LabelAt setting sc d n body × LabelAt setting sc d n1 rest
      × (suc (turns_in false a) ≤ setting.pay)
  IsAct setting sc d env (t.repeat_while l u a e) at c rest =
      (n n1 n2 : ℕ) × (body test : List Stmt) × (c ≡ Label n ∷ body) × IsAct setting (in_loop n1 n2 d sc) d env a at body (Label n1 ∷ test)
      × IsCode setting sc d (past_command a env) (jumps u n) e test (Label n2 ∷ rest) × LabelAt setting sc d n body × LabelAt setting sc d n1 test × LabelAt setting sc d n2 rest
      × (suc (turns_of false e + turns_in false a) ≤ setting.pay)

  -- commands in order
  pub AreActs : Setting → Scene → ℕ → Environment → Commands → (Sought → List Stmt) → List Stmt → List Stmt → Type 0
  AreActs setting sc d env t.no_commands at c rest = c ≡ rest
  AreActs setting sc d env (t.also a cs) at c rest =
      (c1 : List Stmt) × (at1 at2 : Sought → List Stmt) × IsAct setting sc d env a at1 c c1 × AreActs setting sc d (past_command a env) cs at2 c1 rest
      × ((s : Sought) → at s ≡ cond (has_place s env a) (at1 s) (at2 s))

  -- declarations, with what is laid behind them
  pub AreDeclared : Setting → Scene → ℕ → Environment → Declarations → (Scene → ℕ → Environment → List Stmt → Type 0) → List Stmt → Type 0
  AreDeclared setting sc d env t.no_declarations then c = then sc d env c
  AreDeclared setting sc d env (t.declare h hs) then c = IsOneDeclared setting sc d env h (λ sc1 d1 env1 c1. AreDeclared setting sc1 d1 env1 hs then c1) c

  pub IsOneDeclared : Setting → Scene → ℕ → Environment → Declaration → (Scene → ℕ → Environment → List Stmt → Type 0) → List Stmt → Type 0
  IsOneDeclared setting sc d env (t.constants l s is) then c =
      (bs : List Binding) × Renames setting sc env bs (constants_declared s is env) × then (record sc { bindings = bs }) d (constants_declared s is env) c
  IsOneDeclared setting sc d env (t.definitions l ds) then c =
      (bl bs : List Binding) × (d1 : ℕ) × (ps : List Spot) × (c1 c2 : List Stmt) × Renames setting sc env bl (within_let ds env)
      × RenamesVariables sc bl (within_let ds env) bs ps (following (objects_of_definitions ds) (within_let ds env))
      × AreDefined setting (record sc { bindings = bl }) d (within_let ds env) ds c c1 d1 ps × (c1 ≡ cond (defines_variables ds) (Store ∷ c2) c2) × (d1 ≤ FRAME_WORDS)
      × ((o : ℕ) → 0 < o → then (record sc { bindings = bs }) d1 (variables_bound o ps (following (objects_of_definitions ds) (within_let ds env))) c2)

  -- the definitions of a LET: up to this depth, with variables in these slots
  pub AreDefined : Setting → Scene → ℕ → Environment → Definitions → List Stmt → List Stmt → ℕ → List Spot → Type 0
  AreDefined setting sc d env t.no_definitions c rest d1 ps = (c ≡ rest) × (d1 ≡ d) × (ps ≡ [])
  AreDefined setting sc d env (t.define (t.variables l xs is) ds) c rest d1 ps =
      (c0 : List Stmt) × (d0 : ℕ) × (slots : List ℕ) × (more : List Spot) × AreStarts setting sc d env is c c0 d0 slots
      × AreDefined setting sc d0 (past_definition (t.variables l xs is) env) ds c0 rest d1 more × (ps ≡ spots_of (letters xs) slots ++ more)
  AreDefined setting sc d env (t.define (t.routine l x fs a) ds) c rest d1 ps = AreDefined setting sc d (past_definition (t.routine l x fs a) env) ds c rest d1 ps
  AreDefined setting sc d env (t.define (t.function l x fs e) ds) c rest d1 ps = AreDefined setting sc d (past_definition (t.function l x fs e) env) ds c rest d1 ps

  pub AreStarts : Setting → Scene → ℕ → Environment → Starts → List Stmt → List Stmt → ℕ → List ℕ → Type 0
  AreStarts setting sc d env t.no_starts c rest d1 slots = (c ≡ rest) × (d1 ≡ d) × (slots ≡ [])
  AreStarts setting sc d env (t.value e is) c rest d1 slots =
      (c0 : List Stmt) × (more : List ℕ) × IsCode setting sc d env pushes e c c0 × AreStarts setting sc (d + 1) (past e env) is c0 rest d1 more × (slots ≡ d ∷ more)
  AreStarts setting sc d env (t.vector l e is) c rest d1 slots =
      (k : ℕ) × (c0 : List Stmt) × (more : List ℕ) × (constant_in env e ≡ Some k) × (c ≡ Stack (d + k + 1) ∷ Address (Local d) ∷ c0) × AreStarts setting sc (d + k + 2) env is c0 rest d1 more
      × (slots ≡ (d + k + 1) ∷ more)

-- one command, as a scope of its own
abbrev pub IsAlone : Setting → Scene → ℕ → Environment → Command → ℕ → List Stmt → List Stmt → Type 0
IsAlone setting sc d env a j c rest = OneScope setting sc d env a j (λ at1 c1. IsAct setting (owning j (alone a) sc) d (labelled (alone a) env) a at1 c c1) rest

-- a value, and a jump
abbrev pub IsValue : Setting → Scene → ℕ → Environment → Expression → List Stmt → List Stmt → Type 0
IsValue setting sc d env e c rest = IsCode setting sc d env pushes e c rest

abbrev pub IsJump : Setting → Scene → ℕ → Environment → Expression → Bool → ℕ → List Stmt → List Stmt → Type 0
IsJump setting sc d env e u n c rest = IsCode setting sc d env (jumps u n) e c rest

-- the commands of a scope
abbrev pub IsScopeAt : Setting → Scene → ℕ → Environment → Commands → ℕ → (Sought → List Stmt) → List Stmt → List Stmt → Type 0
IsScopeAt setting sc d env cs j at c rest =
    AreActs setting (owning j cs sc) d (labelled cs env) cs at c rest × (turns_through false cs ≤ setting.pay)
    × ((x : List ℕ) → one_has_place (the_label x) env cs ≡ true → LeadsTo (owning j cs sc) d x (at (the_label x)))

abbrev pub IsScope : Setting → Scene → ℕ → Environment → Commands → ℕ → List Stmt → List Stmt → Type 0
IsScope setting sc d env cs j c rest = (at : Sought → List Stmt) × IsScopeAt setting sc d env cs j at c rest

-- A loop, from its body on.
abbrev pub IsLoop : Setting → Scene → ℕ → Environment → Command → (Sought → List Stmt) → List Stmt → List Stmt → Type 0
IsLoop setting sc d env (t.while l u e a) at body rest =
    (n n1 n2 : ℕ) × (test : List Stmt) × IsAct setting (in_loop n n2 d sc) d (past e env) a at body (Label n ∷ test) × IsJump setting sc d env e u n1 test (Label n2 ∷ rest)
    × LabelAt setting sc d n test × LabelAt setting sc d n1 body × LabelAt setting sc d n2 rest × (suc (turns_of false e + turns_in false a) ≤ setting.pay)
IsLoop setting sc d env (t.repeat l a) at body rest =
    (n n1 : ℕ) × IsAct setting (in_loop n n1 d sc) d env a at body (Jump n ∷ Label n1 ∷ rest) × LabelAt setting sc d n body × LabelAt setting sc d n1 rest × (suc (turns_in false a) ≤ setting.pay)
IsLoop setting sc d env (t.repeat_while l u a e) at body rest =
    (n n1 n2 : ℕ) × (test : List Stmt) × IsAct setting (in_loop n1 n2 d sc) d env a at body (Label n1 ∷ test) × IsJump setting sc d (past_command a env) e u n test (Label n2 ∷ rest)
    × LabelAt setting sc d n body × LabelAt setting sc d n1 test × LabelAt setting sc d n2 rest × (suc (turns_of false e + turns_in false a) ≤ setting.pay)
IsLoop setting sc d env _ at body rest = ⊥

-- what a loop has in it, and the environment there
abbrev pub stands_in_body : Sought → Environment → Command → Bool
stands_in_body s env (t.while l u e a) = has_place s (past e env) a
stands_in_body s env (t.repeat l a) = has_place s env a
stands_in_body s env (t.repeat_while l u a e) = has_place s env a
stands_in_body s env _ = false

-- where a command, commands and a loop's body are entered
abbrev pub Entered : Mode → Environment → Command → (Sought → List Stmt) → List Stmt → List Stmt → Type 0
Entered forwards env x at c e = e ≡ c
Entered (seeking s) env x at c e = (has_place s env x ≡ true) × (e ≡ at s)

abbrev pub EnteredAny : Mode → Environment → Commands → (Sought → List Stmt) → List Stmt → List Stmt → Type 0
EnteredAny forwards env cs at c e = e ≡ c
EnteredAny (seeking s) env cs at c e = (one_has_place s env cs ≡ true) × (e ≡ at s)

abbrev pub EnteredBody : Mode → Environment → Command → (Sought → List Stmt) → List Stmt → List Stmt → Type 0
EnteredBody forwards env x at c e = e ≡ c
EnteredBody (seeking s) env x at c e = (stands_in_body s env x ≡ true) × (e ≡ at s)

-- A FOR, from its body on: its variable is the word at depth d, and its limit the word above that.
abbrev pub behind_body : ℕ → ℕ → ℕ → List Stmt → List Stmt
behind_body d k n test = Load (Local d) ∷ Number (signed k) ∷ Dyadic two.Add ∷ Assign (Local d) ∷ Label n ∷ test

abbrev pub IsForLoop : Setting → Scene → ℕ → ℕ → ℕ → Environment → Command → List Stmt → List Stmt → Type 0
IsForLoop setting sc depth d k env e body rest =
    (n n1 n2 n3 j : ℕ) × (test : List Stmt) × IsAlone setting (in_loop n2 n3 depth sc) depth env e j body (Label n2 ∷ behind_body d k n test)
    × (test ≡ Load (Local d) ∷ Load (Local (d + 1)) ∷ test_of_step k ∷ JumpIf true n1 ∷ Label n3 ∷ rest)
    × LabelAt setting sc depth n test × LabelAt setting sc depth n1 body × LabelAt setting sc depth n2 (behind_body d k n test) × LabelAt setting sc depth n3 rest × (suc (turns_in false e) ≤ setting.pay) × (k < 2 ^ 32)
