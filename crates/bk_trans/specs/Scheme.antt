-- The scheme: the statements of each form of a program. s is the depth at a node, n the first label of its own; ts says where
-- declarations went.
use Rattle.std.specs.Prelude.{ℕ, ◌+◌, ◌==◌, pos, Bool, true, false, not, int_lt, cond, Option, Some, None, List, [], ◌∷◌, ◌++◌, map}
use Rattle.bk_base.specs.Strings.{first_bytes}
use Rattle.bk_base.specs.Word.{signed}
use Rattle.bk_tree.specs.declared.tree.Operator.{Operator}
use Rattle.bk_tree.specs.declared.tree.Operator.TheVariants as o
use Rattle.bk_tree.specs.declared.tree.Prefix.{Prefix}
use Rattle.bk_tree.specs.declared.tree.Prefix.TheVariants as q
use Rattle.bk_tree.specs.declared.tree.Simple.TheVariants as w
use Rattle.bk_scope.specs.declared.bound.Bound.{Bound}
use Rattle.bk_scope.specs.declared.bound.Bound.TheVariants as b
use Rattle.bk_ocode.specs.declared.stmt.Variable.{Variable}
use Rattle.bk_ocode.specs.declared.stmt.Variable.TheVariants.{Local, Global, Static}
use Rattle.bk_ocode.specs.declared.stmt.Monadic.TheVariants as m
use Rattle.bk_ocode.specs.declared.stmt.Dyadic.TheVariants as d
use Rattle.bk_ocode.specs.declared.stmt.Case.{Case}
use Rattle.bk_ocode.specs.declared.stmt.GlobalEntry.{GlobalEntry}
use Rattle.bk_ocode.specs.declared.stmt.Stmt.{Stmt}
use Rattle.bk_ocode.specs.declared.stmt.Stmt.TheVariants.{Number, True, False, Query, Load, Address, Text, Monadic, Dyadic, LoadByte, Assign, AssignAt, AssignByte, Jump, JumpIf, Label, GiveResult, TakeResult, Stack, Store, Entry, Save, CallFunction, CallRoutine, ReturnItem, Return, EndProcedure, Switch, Finish, DataLabel, DataNumber, DataAddress, Globals}
use Rattle.bk_ocode.specs.Lists.{joined}
use Rattle.bk_trans.specs.declared.around.Goal.{Goal}
use Rattle.bk_trans.specs.declared.around.Around.{Around}
use Rattle.bk_trans.specs.declared.around.Target.{Target}
use Rattle.bk_trans.specs.Program.{Term, Terms, Condition, Lvalue, Lvalues, NamedCommand, NamedCommands, Declaration, Declarations, Definition, Definitions, Starts, named, number, text, truth, query, parens, unary, address, binary, choice, apply, valof, table, none, more, holds, within, fails, both, either, word, contents, subscript, byte, inside, nowhere, no_lvalues, onto, empty, assign, call, goto, label, case_of, default, when, test, while, for_loop, switch, result, simple, block, repeat, repeat_while, no_named_commands, also, statics, lets, no_declarations, declare, routine, function, variables, no_definitions, define, no_starts, value, vector}
use Rattle.bk_trans.specs.Labels.{labels, labels_if, labels_at, labels_onto, labels_in, labels_of_declarations, labels_of_declaration, labels_of_definition, labels_of_procedure}
use Rattle.bk_trans.specs.Depths.{count, after_definition, after_declaration, after_declarations, has_variables}
use Rattle.bk_trans.specs.Parts.{Part, procedure, static_item, static_table, label_place, target_of, parts_of_declarations}

abbrev pub goal : ℕ → ℕ → Goal
goal l d = record { label = l; depth = d }

-- in a procedure
abbrev pub outermost : Around
outermost = record { goes_on = goal 0 0; leaves = goal 0 0; ends_case = goal 0 0; valof = 0 }

abbrev pub valued : ℕ → Around
valued l = record { goes_on = goal 0 0; leaves = goal 0 0; ends_case = goal 0 0; valof = l }

abbrev pub looping : ℕ → ℕ → ℕ → Around → Around
looping l m d a = record { goes_on = goal l d; leaves = goal m d; ends_case = a.ends_case; valof = a.valof }

abbrev pub switching : ℕ → ℕ → Around → Around
switching l d a = record { goes_on = a.goes_on; leaves = a.leaves; ends_case = goal l d; valof = a.valof }

-- where the declaration of this number went
abbrev pub goal_of : List Target → ℕ → Goal
goal_of [] m = goal 0 0
goal_of (t ∷ ts) m = cond (t.number == m) (goal t.label t.depth) (goal_of ts m)

abbrev pub goal_in : List Target → Bound → Goal
goal_in ts (b.Label k m) = goal_of ts m
goal_in ts _ = goal 0 0

-- the word of a name
abbrev pub variable : List Target → Bound → Variable
variable ts (b.Global (Some g)) = Global g
variable ts (b.Static m) = Static ((goal_of ts m).label)
variable ts (b.Variable k d) = Local d
variable ts _ = Local 0

-- pushes what a name means
abbrev pub push : List Target → Bound → Stmt
push ts (b.Constant (Some w)) = Number (signed w)
push ts (b.Constant None) = Number (pos 0)
push ts x = Load (variable ts x)

abbrev pub prefix_code : Prefix → List Stmt
prefix_code q.Contents = Monadic m.Contents ∷ []
prefix_code q.Minus = Monadic m.Negate ∷ []
prefix_code q.Not = Monadic m.Not ∷ []
prefix_code q.Plus = []
prefix_code q.Address = []

abbrev pub infix_code : Operator → List Stmt
infix_code o.Subscript = Dyadic d.Add ∷ Monadic m.Contents ∷ []
infix_code o.Byte = LoadByte ∷ []
infix_code o.Times = Dyadic d.Multiply ∷ []
infix_code o.Over = Dyadic d.Divide ∷ []
infix_code o.Rem = Dyadic d.Remainder ∷ []
infix_code o.Add = Dyadic d.Add ∷ []
infix_code o.Subtract = Dyadic d.Subtract ∷ []
infix_code o.Equal = Dyadic d.Equal ∷ []
infix_code o.Unequal = Dyadic d.Unequal ∷ []
infix_code o.Less = Dyadic d.Less ∷ []
infix_code o.Greater = Dyadic d.Greater ∷ []
infix_code o.AtMost = Dyadic d.AtMost ∷ []
infix_code o.AtLeast = Dyadic d.AtLeast ∷ []
infix_code o.ShiftLeft = Dyadic d.ShiftLeft ∷ []
infix_code o.ShiftRight = Dyadic d.ShiftRight ∷ []
infix_code o.Both = Dyadic d.And ∷ []
infix_code o.Either = Dyadic d.Or ∷ []
infix_code o.Same = Dyadic d.Eqv ∷ []
infix_code o.Differ = Dyadic d.Neqv ∷ []

abbrev pub truth_value : Bool → Stmt
truth_value true = True
truth_value false = False

-- GO: to a label, from the depth s
abbrev pub go : Goal → ℕ → List Stmt
go g s = Stack g.depth ∷ Jump g.label ∷ Stack s ∷ []

-- the test of a FOR: its step is below 0, or not
abbrev pub test_of_step : ℕ → Stmt
test_of_step k = cond (int_lt (signed k) (pos 0)) (Dyadic d.AtLeast) (Dyadic d.AtMost)

-- the cases of a SWITCHON, in order, and its DEFAULT
abbrev mutual
  pub cases : ℕ → NamedCommand → List Case
  cases n (label b c) = cases (n + 1) c
  cases n (case_of w c) = record { value = signed w; label = n } ∷ cases (n + 1) c
  cases n (default c) = cases (n + 1) c
  cases n (when b e c) = cases (n + 1 + labels_if e) c
  cases n (test e a b) = cases (n + 2 + labels_if e) a ++ cases (n + 2 + labels_if e + labels_in a) b
  cases n (while b e c) = cases (n + 3 + labels_if e) c
  cases n (block no_declarations cs) = cases_through n cs
  cases n (repeat c) = cases (n + 2) c
  cases n (repeat_while b c e) = cases (n + 3) c
  cases n _ = []

  pub cases_through : ℕ → NamedCommands → List Case
  cases_through n no_named_commands = []
  cases_through n (also c cs) = cases n c ++ cases_through (n + labels_in c) cs

abbrev pub first_of : Option ℕ → Option ℕ → Option ℕ
first_of None y = y
first_of (Some l) y = Some l

abbrev mutual
  pub default_in : ℕ → NamedCommand → Option ℕ
  default_in n (label b c) = default_in (n + 1) c
  default_in n (case_of w c) = default_in (n + 1) c
  default_in n (default c) = Some n
  default_in n (when b e c) = default_in (n + 1 + labels_if e) c
  default_in n (test e a b) = first_of (default_in (n + 2 + labels_if e) a) (default_in (n + 2 + labels_if e + labels_in a) b)
  default_in n (while b e c) = default_in (n + 3 + labels_if e) c
  default_in n (block no_declarations cs) = default_through n cs
  default_in n (repeat c) = default_in (n + 2) c
  default_in n (repeat_while b c e) = default_in (n + 3) c
  default_in n _ = None

  pub default_through : ℕ → NamedCommands → Option ℕ
  default_through n no_named_commands = None
  default_through n (also c cs) = first_of (default_in n c) (default_through (n + labels_in c) cs)

abbrev pub label_or : ℕ → Option ℕ → ℕ
label_or l None = l
label_or l (Some m) = m

-- one of each by turns
abbrev pub by_turns : List (List Stmt) → List (List Stmt) → List Stmt
by_turns (x ∷ xs) (y ∷ ys) = x ++ y ++ by_turns xs ys
by_turns _ _ = []

abbrev mutual
  -- a value is pushed
  pub value_code : List Target → ℕ → ℕ → Term → List Stmt
  value_code ts s n (named x) = push ts x ∷ []
  value_code ts s n (number w) = Number (signed w) ∷ []
  value_code ts s n (text x) = Text (first_bytes x) ∷ []
  value_code ts s n (truth t) = truth_value t ∷ []
  value_code ts s n query = Query ∷ []
  value_code ts s n (parens e) = value_code ts s n e
  value_code ts s n (unary q e) = value_code ts s n e ++ prefix_code q
  value_code ts s n (address x) = address_code ts s n x
  value_code ts s n (binary o a b) = value_code ts s n a ++ value_code ts (s + 1) (n + labels a) b ++ infix_code o
  value_code ts s n (choice c a b) =
      jump_code ts s (n + 2) c false n ++ value_code ts s (n + 2 + labels_if c) a ++ GiveResult (n + 1)
      ∷ Label n ∷ value_code ts s (n + 2 + labels_if c + labels a) b ++ GiveResult (n + 1)
      ∷ Label (n + 1) ∷ TakeResult s ∷ []
  value_code ts s n (apply e es) = Stack (s + 2) ∷ each_code ts (s + 2) (n + labels e) es ++ value_code ts (s + 2 + count es) n e ++ CallFunction s ∷ []
  value_code ts s n (valof c) = command_code ts (valued n) s (n + 1) c ++ Label n ∷ TakeResult s ∷ []
  value_code ts s n (table ws) = Address (Static n) ∷ []

  pub each_code : List Target → ℕ → ℕ → Terms → List Stmt
  each_code ts s n none = []
  each_code ts s n (more e es) = value_code ts s n e ++ each_code ts (s + 1) (n + labels e) es

  -- J: jumps to l where the truth is t
  pub jump_code : List Target → ℕ → ℕ → Condition → Bool → ℕ → List Stmt
  jump_code ts s n (holds e) t l = value_code ts s n e ++ JumpIf t l ∷ []
  jump_code ts s n (within c) t l = jump_code ts s n c t l
  jump_code ts s n (fails c) t l = jump_code ts s n c (not t) l
  jump_code ts s n (both a b) false l = jump_code ts s (n + 1) a false l ++ jump_code ts s (n + 1 + labels_if a) b false l
  jump_code ts s n (both a b) true l = jump_code ts s (n + 1) a false n ++ jump_code ts s (n + 1 + labels_if a) b true l ++ Label n ∷ []
  jump_code ts s n (either a b) true l = jump_code ts s (n + 1) a true l ++ jump_code ts s (n + 1 + labels_if a) b true l
  jump_code ts s n (either a b) false l = jump_code ts s (n + 1) a true n ++ jump_code ts s (n + 1 + labels_if a) b false l ++ Label n ∷ []

  -- an address is pushed
  pub address_code : List Target → ℕ → ℕ → Lvalue → List Stmt
  address_code ts s n (word x) = Address (variable ts x) ∷ []
  address_code ts s n (contents e) = value_code ts s n e
  address_code ts s n (subscript a b) = value_code ts s n a ++ value_code ts (s + 1) (n + labels a) b ++ Dyadic d.Add ∷ []
  address_code ts s n (byte a b) = []
  address_code ts s n (inside x) = address_code ts s n x
  address_code ts s n nowhere = []

  -- the value on top is stored
  pub store_code : List Target → ℕ → ℕ → Lvalue → List Stmt
  store_code ts s n (word x) = Assign (variable ts x) ∷ []
  store_code ts s n (contents e) = value_code ts s n e ++ AssignAt ∷ []
  store_code ts s n (subscript a b) = value_code ts s n a ++ value_code ts (s + 1) (n + labels a) b ++ Dyadic d.Add ∷ AssignAt ∷ []
  store_code ts s n (byte a b) = value_code ts s n a ++ value_code ts (s + 1) (n + labels a) b ++ AssignByte ∷ []
  store_code ts s n (inside x) = store_code ts s n x
  store_code ts s n nowhere = []

  -- the codes of several values, all at one depth, and those that store them
  pub value_codes : List Target → ℕ → ℕ → Terms → List (List Stmt)
  value_codes ts s n none = []
  value_codes ts s n (more e es) = value_code ts s n e ∷ value_codes ts s (n + labels e) es

  pub store_codes : List Target → ℕ → ℕ → Lvalues → List (List Stmt)
  store_codes ts s n no_lvalues = []
  store_codes ts s n (onto x xs) = store_code ts s n x ∷ store_codes ts s (n + labels_at x) xs

  pub command_code : List Target → Around → ℕ → ℕ → NamedCommand → List Stmt
  command_code ts a s n empty = []
  command_code ts a s n (assign xs es) = by_turns (value_codes ts s (n + labels_onto xs) es) (store_codes ts (s + 1) n xs)
  command_code ts a s n (call e es) = Stack (s + 2) ∷ each_code ts (s + 2) (n + labels e) es ++ value_code ts (s + 2 + count es) n e ++ CallRoutine s ∷ []
  command_code ts a s n (goto x) = go (goal_in ts x) s
  command_code ts a s n (label x c) = Label n ∷ command_code ts a s (n + 1) c
  command_code ts a s n (case_of w c) = Label n ∷ command_code ts a s (n + 1) c
  command_code ts a s n (default c) = Label n ∷ command_code ts a s (n + 1) c
  command_code ts a s n (when b e c) = jump_code ts s (n + 1) e (not b) n ++ command_code ts a s (n + 1 + labels_if e) c ++ Label n ∷ []
  command_code ts a s n (test e c x) =
      jump_code ts s (n + 2) e false n ++ command_code ts a s (n + 2 + labels_if e) c ++ Jump (n + 1)
      ∷ Label n ∷ command_code ts a s (n + 2 + labels_if e + labels_in c) x ++ Label (n + 1) ∷ []
  command_code ts a s n (while b e c) =
      Jump n ∷ Label (n + 1) ∷ command_code ts (looping n (n + 2) s a) s (n + 3 + labels_if e) c
      ++ Label n ∷ jump_code ts s (n + 3) e b (n + 1) ++ Label (n + 2) ∷ []
  command_code ts a s n (for_loop x y k c) =
      value_code ts s (n + 4) x ++ value_code ts (s + 1) (n + 4 + labels x) y ++ Store ∷ Jump n
      ∷ Label (n + 1) ∷ command_code ts (looping (n + 2) (n + 3) (s + 2) a) (s + 2) (n + 4 + labels x + labels y) c
      ++ Label (n + 2) ∷ Load (Local s) ∷ Number (signed k) ∷ Dyadic d.Add ∷ Assign (Local s)
      ∷ Label n ∷ Load (Local s) ∷ Load (Local (s + 1)) ∷ test_of_step k ∷ JumpIf true (n + 1)
      ∷ Label (n + 3) ∷ Stack s ∷ []
  command_code ts a s n (switch e c) =
      value_code ts s (n + 1) e ++ Switch (label_or n (default_in (n + 1 + labels e) c)) (cases (n + 1 + labels e) c)
      ∷ command_code ts (switching n s a) s (n + 1 + labels e) c ++ Label n ∷ []
  command_code ts a s n (result e) = value_code ts s n e ++ GiveResult a.valof ∷ []
  command_code ts a s n (simple w.Break) = go a.leaves s
  command_code ts a s n (simple w.Loop) = go a.goes_on s
  command_code ts a s n (simple w.EndCase) = go a.ends_case s
  command_code ts a s n (simple w.Return) = Return ∷ []
  command_code ts a s n (simple w.Finish) = Finish ∷ []
  command_code ts a s n (block no_declarations cs) = through_code ts a s n cs
  command_code ts a s n (block (declare h hs) cs) =
      declarations_code ts s n (declare h hs) ++ through_code ts a (after_declarations s (declare h hs)) (n + labels_of_declarations (declare h hs)) cs ++ Stack s ∷ []
  command_code ts a s n (repeat c) = Label n ∷ command_code ts (looping n (n + 1) s a) s (n + 2) c ++ Jump n ∷ Label (n + 1) ∷ []
  command_code ts a s n (repeat_while b c e) =
      Label n ∷ command_code ts (looping (n + 1) (n + 2) s a) s (n + 3) c
      ++ Label (n + 1) ∷ jump_code ts s (n + 3 + labels_in c) e b n ++ Label (n + 2) ∷ []

  pub through_code : List Target → Around → ℕ → ℕ → NamedCommands → List Stmt
  through_code ts a s n no_named_commands = []
  through_code ts a s n (also c cs) = command_code ts a s n c ++ through_code ts a s (n + labels_in c) cs

  -- declarations, with depth t before them
  pub declarations_code : List Target → ℕ → ℕ → Declarations → List Stmt
  declarations_code ts t n no_declarations = []
  declarations_code ts t n (declare h hs) = declaration_code ts t n h ++ declarations_code ts (after_declaration t h) (n + labels_of_declaration h) hs

  pub declaration_code : List Target → ℕ → ℕ → Declaration → List Stmt
  declaration_code ts t n (statics ks) = []
  declaration_code ts t n (lets ds) = definitions_code ts t n ds ++ cond (has_variables ds) (Store ∷ []) []

  pub definitions_code : List Target → ℕ → ℕ → Definitions → List Stmt
  definitions_code ts t n no_definitions = []
  definitions_code ts t n (define d ds) = definition_code ts t n d ++ definitions_code ts (after_definition t d) (n + labels_of_definition d) ds

  pub definition_code : List Target → ℕ → ℕ → Definition → List Stmt
  definition_code ts t n (variables is) = starts_code ts t n is
  definition_code ts t n _ = []

  pub starts_code : List Target → ℕ → ℕ → Starts → List Stmt
  starts_code ts t n no_starts = []
  starts_code ts t n (value e is) = value_code ts t n e ++ starts_code ts (t + 1) (n + labels e) is
  starts_code ts t n (vector k is) = Stack (t + k + 1) ∷ Address (Local t) ∷ starts_code ts (t + k + 2) n is

-- a procedure, whose first label is n
abbrev pub procedure_code : List Target → Part → List Stmt
procedure_code ts (procedure n (routine x name k c)) = Entry n (first_bytes name) ∷ Save (k + 2) ∷ command_code ts outermost (k + 2) (n + labels_of_procedure x) c ++ Return ∷ EndProcedure ∷ []
procedure_code ts (procedure n (function x name k e)) = Entry n (first_bytes name) ∷ Save (k + 2) ∷ value_code ts (k + 2) (n + labels_of_procedure x) e ++ ReturnItem ∷ EndProcedure ∷ []
procedure_code ts _ = []

-- the word of a procedure that sets no global
abbrev pub word_code : ℕ → Bound → List Stmt
word_code n (b.Static m) = DataLabel (n + 1) ∷ DataAddress n ∷ []
word_code n _ = []

abbrev pub data_code : Part → List Stmt
data_code (procedure n (routine x name k c)) = word_code n x
data_code (procedure n (function x name k e)) = word_code n x
data_code (procedure n (variables is)) = []
data_code (static_item n k) = DataLabel n ∷ DataNumber (signed k.word) ∷ []
data_code (static_table n ws) = DataLabel n ∷ map (λ w. DataNumber (signed w)) ws
data_code (label_place n s x) = []

-- the global that a procedure sets
abbrev pub entry_of : ℕ → Bound → List GlobalEntry
entry_of n (b.Global (Some g)) = record { number = g; label = n } ∷ []
entry_of n _ = []

abbrev pub entries_of : Part → List GlobalEntry
entries_of (procedure n (routine x name k c)) = entry_of n x
entries_of (procedure n (function x name k e)) = entry_of n x
entries_of _ = []

abbrev pub section_code : List Part → List Stmt
section_code ps =
    joined (procedure_code (joined target_of ps)) ps ++ joined data_code ps ++ Globals (joined entries_of ps) ∷ []

-- the statements of a section
abbrev pub scheme : Declarations → List Stmt
scheme ds = section_code (parts_of_declarations 2 1 ds)
