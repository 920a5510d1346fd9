-- The place of each statement that the scheme writes for a node: a clause here is beside the clause of the scheme for the same node, and
-- has a place for each of its statements, in their order. A place is the position of the node whose clause writes the statement: an
-- operator's, an arrow's or a call's parenthesis for what it does itself, else the node's first symbol.
use Rattle.std.specs.Prelude.{ℕ, Bool, true, false, not, cond, Option, Some, None, List, [], ◌∷◌, ◌++◌, replicate}
use Rattle.bk_tree.specs.declared.tree.Operator.{Operator}
use Rattle.bk_tree.specs.declared.tree.Operator.TheVariants as o
use Rattle.bk_tree.specs.declared.tree.Prefix.{Prefix}
use Rattle.bk_tree.specs.declared.tree.Prefix.TheVariants as q
use Rattle.bk_tree.specs.declared.tree.Simple.{Simple}
use Rattle.bk_tree.specs.declared.tree.Simple.TheVariants as w
use Rattle.bk_tree.specs.declared.tree.Sort.{Sort}
use Rattle.bk_tree.specs.declared.tree.Sort.TheVariants as sort
use Rattle.bk_tree.specs.Tree.{Expression, Expressions, Command, Commands, Declaration, Declarations, Items, Definition, Definitions, Starts, name, number, text, truth, query, parens, unary, binary, choice, apply, valof, table, none, more, empty, assign, call, goto, label, case_of, default, when, test, while, for_loop, switch, result, simple, block, repeat, repeat_while, no_commands, also, constants, definitions, no_declarations, declare, no_items, item, routine, function, variables, no_definitions, define, no_starts, value, vector}
use Rattle.bk_tree.specs.Parts.{at_expression}
use Rattle.bk_source_map.specs.declared.kind.Kind.{Kind}
use Rattle.bk_source_map.specs.declared.kind.Kind.TheVariants.{Procedures, Words}

-- An expression is asked for its value, or for a jump where its truth is so.

-- the jump on a value
abbrev pub jumps : Option Bool → ℕ → List ℕ
jumps None l = []
jumps (Some t) l = replicate 1 l

-- a prefix, its NOT apart: NOT works on truth where a jump is asked for
abbrev pub prefix_places : Prefix → ℕ → List ℕ
prefix_places q.Contents l = replicate 1 l
prefix_places q.Minus l = replicate 1 l
prefix_places q.Not l = replicate 1 l
prefix_places q.Plus l = []
prefix_places q.Address l = []

abbrev pub negated : Option Bool → Option Bool
negated None = None
negated (Some t) = Some (not t)

abbrev pub not_places : Option Bool → ℕ → List ℕ
not_places None l = replicate 1 l
not_places (Some t) l = []

-- an operator and what it asks its operands for: `&` and `|` work on truth where a jump is asked for, and may set a label after them
abbrev pub left_asked : Operator → Option Bool → Option Bool
left_asked o.Both (Some t) = Some false
left_asked o.Either (Some t) = Some true
left_asked f a = None

abbrev pub right_asked : Operator → Option Bool → Option Bool
right_asked o.Both (Some t) = Some t
right_asked o.Either (Some t) = Some t
right_asked f a = None

abbrev pub infix_places : Operator → ℕ → List ℕ
infix_places o.Subscript m = replicate 2 m
infix_places f m = replicate 1 m

abbrev pub operator_places : Operator → Option Bool → ℕ → ℕ → List ℕ
operator_places o.Both (Some t) l m = cond t (replicate 1 m) []
operator_places o.Either (Some t) l m = cond t [] (replicate 1 m)
operator_places f a l m = infix_places f m ++ jumps a l

-- what may be between the operands of a destination, and of an address: a byte has none
abbrev pub is_address : Operator → Bool
is_address o.Subscript = true
is_address f = false

abbrev pub is_destination : Operator → Bool
is_destination o.Subscript = true
is_destination o.Byte = true
is_destination f = false

abbrev pub store_operator_places : Operator → ℕ → List ℕ
store_operator_places o.Subscript m = replicate 2 m
store_operator_places f m = replicate 1 m

-- a command of one word
abbrev pub simple_places : Simple → ℕ → List ℕ
simple_places w.Return l = replicate 1 l
simple_places w.Finish l = replicate 1 l
simple_places x l = replicate 3 l

-- one of each by turns
abbrev pub by_turns : List (List ℕ) → List (List ℕ) → List ℕ
by_turns (x ∷ xs) (y ∷ ys) = x ++ y ++ by_turns xs ys
by_turns _ _ = []

-- whether a LET has variables
abbrev pub any_variables : Definitions → Bool
any_variables no_definitions = false
any_variables (define (variables l xs is) ds) = true
any_variables (define _ ds) = any_variables ds

-- the STORE of a LET
abbrev pub let_places : Definitions → ℕ → List ℕ
let_places ds l = cond (any_variables ds) (replicate 1 l) []

-- the end of a block: its declarations are left
abbrev pub leave_places : Declarations → ℕ → List ℕ
leave_places no_declarations l = []
leave_places (declare d ds) l = replicate 1 l

abbrev mutual
  pub value_places : Option Bool → Expression → List ℕ
  value_places a (name l x) = replicate 1 l ++ jumps a l
  value_places a (number l n) = replicate 1 l ++ jumps a l
  value_places a (text l x) = replicate 1 l ++ jumps a l
  value_places a (truth l b) = replicate 1 l ++ jumps a l
  value_places a (query l) = replicate 1 l ++ jumps a l
  value_places a (parens l e) = value_places a e
  value_places a (unary l q.Address e) = address_places e ++ jumps a l
  value_places a (unary l q.Not e) = value_places (negated a) e ++ not_places a l
  value_places a (unary l f e) = value_places None e ++ prefix_places f l ++ jumps a l
  value_places a (binary l f m x y) = value_places (left_asked f a) x ++ value_places (right_asked f a) y ++ operator_places f a l m
  value_places a (choice l m c x y) =
      value_places (Some false) c ++ value_places None x ++ replicate 2 m ++ value_places None y ++ replicate 3 m ++ jumps a l
  value_places a (apply l m e es) = replicate 1 l ++ each_places es ++ value_places None e ++ replicate 1 m ++ jumps a l
  value_places a (valof l c) = command_places c ++ replicate 2 l ++ jumps a l
  value_places a (table l es) = replicate 1 l ++ jumps a l

  pub each_places : Expressions → List ℕ
  each_places none = []
  each_places (more e es) = value_places None e ++ each_places es

  -- an address is pushed
  pub address_places : Expression → List ℕ
  address_places (name l x) = replicate 1 l
  address_places (parens l e) = address_places e
  address_places (unary l q.Contents e) = value_places None e
  address_places (binary l f m x y) = cond (is_address f) (value_places None x ++ value_places None y ++ replicate 1 m) []
  address_places _ = []

  -- the value on top is stored
  pub store_places : Expression → List ℕ
  store_places (name l x) = replicate 1 l
  store_places (parens l e) = store_places e
  store_places (unary l q.Contents e) = value_places None e ++ replicate 1 l
  store_places (binary l f m x y) = cond (is_destination f) (value_places None x ++ value_places None y ++ store_operator_places f m) []
  store_places _ = []

  -- several values, and several destinations
  pub values_places : Expressions → List (List ℕ)
  values_places none = []
  values_places (more e es) = value_places None e ∷ values_places es

  pub stores_places : Expressions → List (List ℕ)
  stores_places none = []
  stores_places (more e es) = store_places e ∷ stores_places es

  pub command_places : Command → List ℕ
  command_places empty = []
  command_places (assign l xs es) = by_turns (values_places es) (stores_places xs)
  command_places (call l e es) = replicate 1 l ++ each_places es ++ value_places None e ++ replicate 1 l
  command_places (goto l x) = replicate 3 l
  command_places (label l x c) = replicate 1 l ++ command_places c
  command_places (case_of l e c) = replicate 1 l ++ command_places c
  command_places (default l c) = replicate 1 l ++ command_places c
  command_places (when l b e c) = value_places (Some (not b)) e ++ command_places c ++ replicate 1 l
  command_places (test l e c d) = value_places (Some false) e ++ command_places c ++ replicate 2 l ++ command_places d ++ replicate 1 l
  command_places (while l b e c) = replicate 2 l ++ command_places c ++ replicate 1 l ++ value_places (Some b) e ++ replicate 1 l
  -- before the body the limit is stored and the test is gone to; after it are the step, the test and the end
  command_places (for_loop l x a b h c) = value_places None a ++ value_places None b ++ replicate 3 l ++ command_places c ++ replicate 12 l
  command_places (switch l e c) = value_places None e ++ replicate 1 l ++ command_places c ++ replicate 1 l
  command_places (result l e) = value_places None e ++ replicate 1 l
  command_places (simple l x) = simple_places x l
  command_places (block l ds cs) = declared_places ds ++ through_places cs ++ leave_places ds l
  command_places (repeat l c) = replicate 1 l ++ command_places c ++ replicate 2 l
  command_places (repeat_while l b c e) = replicate 1 l ++ command_places c ++ replicate 1 l ++ value_places (Some b) e ++ replicate 1 l

  pub through_places : Commands → List ℕ
  through_places no_commands = []
  through_places (also c cs) = command_places c ++ through_places cs

  pub declared_places : Declarations → List ℕ
  declared_places no_declarations = []
  declared_places (declare d ds) = one_declared_places d ++ declared_places ds

  pub one_declared_places : Declaration → List ℕ
  one_declared_places (constants l s is) = []
  one_declared_places (definitions l ds) = defined_places ds ++ let_places ds l

  pub defined_places : Definitions → List ℕ
  defined_places no_definitions = []
  defined_places (define d ds) = one_defined_places d ++ defined_places ds

  -- a procedure is by itself
  pub one_defined_places : Definition → List ℕ
  one_defined_places (variables l xs is) = started_places is
  one_defined_places _ = []

  pub started_places : Starts → List ℕ
  started_places no_starts = []
  started_places (value e is) = value_places None e ++ started_places is
  started_places (vector l e is) = replicate 2 l ++ started_places is

-- ---- What is by itself in a node: the code of its procedures, a procedure before those in it, and the words of its STATICs and TABLEs.

-- a label, and the word of each constant
abbrev pub constant_places : Expressions → List ℕ
constant_places none = []
constant_places (more e es) = at_expression e ∷ constant_places es

abbrev pub table_places : Kind → ℕ → Expressions → List ℕ
table_places Procedures l es = []
table_places Words l es = replicate 1 l ++ constant_places es

abbrev pub item_places : Items → List ℕ
item_places no_items = []
item_places (item l x e is) = replicate 2 l ++ item_places is

abbrev pub static_places : Kind → Sort → Items → List ℕ
static_places Words sort.Static is = item_places is
static_places k s is = []

-- the code of a procedure: ENTRY and SAVE, its body, and its return and ENDPROC
abbrev pub procedure_places : Kind → ℕ → List ℕ → List ℕ
procedure_places Procedures l body = replicate 2 l ++ body ++ replicate 2 l
procedure_places Words l body = []

abbrev mutual
  pub inner : Kind → Expression → List ℕ
  inner k (parens l e) = inner k e
  inner k (unary l q.Address e) = inner_at k e
  inner k (unary l f e) = inner k e
  inner k (binary l f m x y) = inner k x ++ inner k y
  inner k (choice l m c x y) = inner k c ++ inner k x ++ inner k y
  inner k (apply l m e es) = inner k e ++ inner_each k es
  inner k (valof l c) = inner_in k c
  inner k (table l es) = table_places k l es
  inner k _ = []

  pub inner_each : Kind → Expressions → List ℕ
  inner_each k none = []
  inner_each k (more e es) = inner k e ++ inner_each k es

  -- destinations, and what is asked for its address
  pub inner_at : Kind → Expression → List ℕ
  inner_at k (parens l e) = inner_at k e
  inner_at k (unary l q.Contents e) = inner k e
  inner_at k (binary l f m x y) = cond (is_destination f) (inner k x ++ inner k y) []
  inner_at k _ = []

  pub inner_onto : Kind → Expressions → List ℕ
  inner_onto k none = []
  inner_onto k (more e es) = inner_at k e ++ inner_onto k es

  pub inner_in : Kind → Command → List ℕ
  inner_in k (assign l xs es) = inner_onto k xs ++ inner_each k es
  inner_in k (call l e es) = inner k e ++ inner_each k es
  inner_in k (label l x c) = inner_in k c
  inner_in k (case_of l e c) = inner_in k c
  inner_in k (default l c) = inner_in k c
  inner_in k (when l b e c) = inner k e ++ inner_in k c
  inner_in k (test l e c d) = inner k e ++ inner_in k c ++ inner_in k d
  inner_in k (while l b e c) = inner k e ++ inner_in k c
  inner_in k (for_loop l x a b h c) = inner k a ++ inner k b ++ inner_in k c
  inner_in k (switch l e c) = inner k e ++ inner_in k c
  inner_in k (result l e) = inner k e
  inner_in k (block l ds cs) = inner_declared k ds ++ inner_through k cs
  inner_in k (repeat l c) = inner_in k c
  inner_in k (repeat_while l b c e) = inner_in k c ++ inner k e
  inner_in k _ = []

  pub inner_through : Kind → Commands → List ℕ
  inner_through k no_commands = []
  inner_through k (also c cs) = inner_in k c ++ inner_through k cs

  pub inner_declared : Kind → Declarations → List ℕ
  inner_declared k no_declarations = []
  inner_declared k (declare d ds) = inner_one_declared k d ++ inner_declared k ds

  pub inner_one_declared : Kind → Declaration → List ℕ
  inner_one_declared k (constants l s is) = static_places k s is
  inner_one_declared k (definitions l ds) = inner_defined k ds

  pub inner_defined : Kind → Definitions → List ℕ
  inner_defined k no_definitions = []
  inner_defined k (define d ds) = inner_one_defined k d ++ inner_defined k ds

  pub inner_one_defined : Kind → Definition → List ℕ
  inner_one_defined k (routine l x fs c) = procedure_places k l (command_places c) ++ inner_in k c
  inner_one_defined k (function l x fs e) = procedure_places k l (value_places None e) ++ inner k e
  inner_one_defined k (variables l xs is) = inner_started k is

  pub inner_started : Kind → Starts → List ℕ
  inner_started k no_starts = []
  inner_started k (value e is) = inner k e ++ inner_started k is
  inner_started k (vector l e is) = inner_started k is
