-- The nodes of the named tree of a section: filling gives no more of them than its source has.
use Rattle.bk_trans.proofs.Words.{arith, ◌≤◌, ℕ, ◌+◌, length, Expression, Expressions, Command, Commands, Declaration, Declarations, Items, Definition, Definitions, Starts, Operator as o, Prefix as q, Sort as s}
use Rattle.bk_tree.specs.Tree as t
use Rattle.bk_tree.specs.Limits as tree
use Rattle.bk_trans.specs.Program as p
use Rattle.bk_trans.specs.Filling.{Supply, term, terms, condition, lvalue, lvalues, command, commands, declared, all_declared, defined, all_defined, starts}
use Rattle.bk_trans.specs.Filling.{static_items, dropped, constant, constants_of, meaning, step_of}

abbrev mutual
  pub nodes : p.Term → ℕ
  nodes (p.parens e) = nodes e
  nodes (p.unary f e) = 1 + nodes e
  nodes (p.address x) = 1 + nodes_at x
  nodes (p.binary f x y) = 1 + nodes x + nodes y
  nodes (p.choice c x y) = 1 + nodes_if c + nodes x + nodes y
  nodes (p.apply e es) = 1 + nodes e + nodes_of_each es
  nodes (p.valof c) = 1 + nodes_in c
  nodes (p.table ws) = 1 + length ws
  nodes _ = 1

  pub nodes_of_each : p.Terms → ℕ
  nodes_of_each p.none = 0
  nodes_of_each (p.more e es) = nodes e + nodes_of_each es

  pub nodes_if : p.Condition → ℕ
  nodes_if (p.holds e) = nodes e
  nodes_if (p.within c) = nodes_if c
  nodes_if (p.fails c) = nodes_if c
  nodes_if (p.both x y) = 1 + nodes_if x + nodes_if y
  nodes_if (p.either x y) = 1 + nodes_if x + nodes_if y

  pub nodes_at : p.Lvalue → ℕ
  nodes_at (p.word x) = 1
  nodes_at (p.contents e) = 1 + nodes e
  nodes_at (p.subscript x y) = 1 + nodes x + nodes y
  nodes_at (p.byte x y) = 1 + nodes x + nodes y
  nodes_at (p.inside x) = nodes_at x
  nodes_at p.nowhere = 0

  pub nodes_onto : p.Lvalues → ℕ
  nodes_onto p.no_lvalues = 0
  nodes_onto (p.onto x xs) = nodes_at x + nodes_onto xs

  pub nodes_in : p.NamedCommand → ℕ
  nodes_in p.empty = 0
  nodes_in (p.assign xs es) = 1 + nodes_onto xs + nodes_of_each es
  nodes_in (p.call e es) = 1 + nodes e + nodes_of_each es
  nodes_in (p.label x c) = 1 + nodes_in c
  nodes_in (p.case_of v c) = 1 + nodes_in c
  nodes_in (p.default c) = 1 + nodes_in c
  nodes_in (p.when x e c) = 1 + nodes_if e + nodes_in c
  nodes_in (p.test e x y) = 1 + nodes_if e + nodes_in x + nodes_in y
  nodes_in (p.while x e c) = 1 + nodes_if e + nodes_in c
  nodes_in (p.for_loop x y k c) = 1 + nodes x + nodes y + nodes_in c
  nodes_in (p.switch e c) = 1 + nodes e + nodes_in c
  nodes_in (p.result e) = 1 + nodes e
  nodes_in (p.block xs cs) = 1 + nodes_declared xs + nodes_through cs
  nodes_in (p.repeat c) = 1 + nodes_in c
  nodes_in (p.repeat_while x c e) = 1 + nodes_in c + nodes_if e
  nodes_in _ = 1

  pub nodes_through : p.NamedCommands → ℕ
  nodes_through p.no_named_commands = 0
  nodes_through (p.also c cs) = nodes_in c + nodes_through cs

  pub nodes_declared : p.Declarations → ℕ
  nodes_declared p.no_declarations = 0
  nodes_declared (p.declare x xs) = nodes_of_one x + nodes_declared xs

  pub nodes_of_one : p.Declaration → ℕ
  nodes_of_one (p.statics is) = length is
  nodes_of_one (p.lets ds) = nodes_defined ds

  pub nodes_defined : p.Definitions → ℕ
  nodes_defined p.no_definitions = 0
  nodes_defined (p.define d ds) = nodes_of_definition d + nodes_defined ds

  pub nodes_of_definition : p.Definition → ℕ
  nodes_of_definition (p.routine x y k c) = 1 + nodes_in c
  nodes_of_definition (p.function x y k e) = 1 + nodes e
  nodes_of_definition (p.variables is) = 1 + nodes_started is

  pub nodes_started : p.Starts → ℕ
  nodes_started p.no_starts = 0
  nodes_started (p.value e is) = nodes e + nodes_started is
  nodes_started (p.vector k is) = 1 + nodes_started is

some_nodes : (e : Expression) → 1 ≤ tree.nodes e
some_nodes (t.query l) = omega arith
some_nodes _ = omega arith

constants_kept : (es : Expressions) (g : Supply) → length (constants_of es g).part ≤ tree.nodes_of_each es
constants_kept t.none g = omega arith
constants_kept (t.more e es) g = let h = constants_kept es (constant g).left in let i = some_nodes e in omega (arith, h, i)

statics_kept : (is : Items) (g : Supply) → length (static_items is g).part ≤ tree.nodes_of_items is
statics_kept t.no_items g = omega arith
statics_kept (t.item l x e is) g = let h = statics_kept is (meaning (constant g).left).left in omega (arith, h)

dropped_kept : (is : Items) (g : Supply) → length (dropped is g).part ≤ tree.nodes_of_items is
dropped_kept t.no_items g = omega arith
dropped_kept (t.item l x e is) g = let h = dropped_kept is (constant g).left in omega (arith, h)

-- an expression for its value, and for its truth
abbrev Kept : Expression → Supply → Type 0
Kept e g = (nodes (term e g).part ≤ tree.nodes e) × (nodes_if (condition e g).part ≤ tree.nodes e)

same : {A : Type 0} → A → A × A
same h = (h, h)

mutual
  kept : (e : Expression) (g : Supply) → Kept e g
  kept (t.parens l e) g = let h = kept e g in let u = h.0 in let v = h.1 in (omega (arith, u), omega (arith, v))
  kept (t.unary l q.Not e) g = let h = kept e g in let u = h.0 in let v = h.1 in (omega (arith, u), omega (arith, v))
  kept (t.unary l q.Address e) g = let h = kept_at e g in same (omega (arith, h))
  kept (t.unary l q.Contents e) g = let h = (kept e g).0 in same (omega (arith, h))
  kept (t.unary l q.Plus e) g = let h = (kept e g).0 in same (omega (arith, h))
  kept (t.unary l q.Minus e) g = let h = (kept e g).0 in same (omega (arith, h))
  kept (t.binary l o.Both m x y) g =
      let h = (kept x g).0 in let i = (kept y (term x g).left).0 in
      let u = (kept x g).1 in let v = (kept y (condition x g).left).1 in (omega (arith, h, i), omega (arith, u, v))
  kept (t.binary l o.Either m x y) g =
      let h = (kept x g).0 in let i = (kept y (term x g).left).0 in
      let u = (kept x g).1 in let v = (kept y (condition x g).left).1 in (omega (arith, h, i), omega (arith, u, v))
  kept (t.binary l f m x y) g = let h = (kept x g).0 in let i = (kept y (term x g).left).0 in same (omega (arith, h, i))
  kept (t.choice l m c x y) g =
      let h = (kept c g).1 in let i = (kept x (condition c g).left).0 in let j = (kept y (term x (condition c g).left).left).0 in
      same (omega (arith, h, i, j))
  kept (t.apply l m e es) g = let h = (kept e g).0 in let i = kept_each es (term e g).left in same (omega (arith, h, i))
  kept (t.valof l c) g = let h = kept_in c g in same (omega (arith, h))
  kept (t.table l es) g = let h = constants_kept es g in same (omega (arith, h))
  kept _ g = same (omega arith)

  kept_each : (es : Expressions) (g : Supply) → nodes_of_each (terms es g).part ≤ tree.nodes_of_each es
  kept_each t.none g = omega arith
  kept_each (t.more e es) g = let h = (kept e g).0 in let i = kept_each es (term e g).left in omega (arith, h, i)

  kept_at : (e : Expression) (g : Supply) → nodes_at (lvalue e g).part ≤ tree.nodes e
  kept_at (t.parens l e) g = let h = kept_at e g in omega (arith, h)
  kept_at (t.unary l q.Contents e) g = let h = (kept e g).0 in omega (arith, h)
  kept_at (t.binary l o.Subscript m x y) g = let h = (kept x g).0 in let i = (kept y (term x g).left).0 in omega (arith, h, i)
  kept_at (t.binary l o.Byte m x y) g = let h = (kept x g).0 in let i = (kept y (term x g).left).0 in omega (arith, h, i)
  kept_at e g = omega arith

  kept_onto : (es : Expressions) (g : Supply) → nodes_onto (lvalues es g).part ≤ tree.nodes_of_each es
  kept_onto t.none g = omega arith
  kept_onto (t.more e es) g = let h = kept_at e g in let i = kept_onto es (lvalue e g).left in omega (arith, h, i)

  kept_in : (c : Command) (g : Supply) → nodes_in (command c g).part ≤ tree.nodes_of_command c
  kept_in (t.assign l xs es) g = let h = kept_onto xs g in let i = kept_each es (lvalues xs g).left in omega (arith, h, i)
  kept_in (t.call l e es) g = let h = (kept e g).0 in let i = kept_each es (term e g).left in omega (arith, h, i)
  kept_in (t.label l x c) g = let h = kept_in c (meaning g).left in omega (arith, h)
  kept_in (t.case_of l e c) g = let h = kept_in c (constant g).left in omega (arith, h)
  kept_in (t.default l c) g = let h = kept_in c g in omega (arith, h)
  kept_in (t.when l x e c) g = let h = (kept e g).1 in let i = kept_in c (condition e g).left in omega (arith, h, i)
  kept_in (t.test l e x y) g = omega (arith, (kept e g).1, kept_in x (condition e g).left, kept_in y (command x (condition e g).left).left)
  kept_in (t.while l x e c) g = let h = (kept e g).1 in let i = kept_in c (condition e g).left in omega (arith, h, i)
  kept_in (t.for_loop l v x y k c) g = omega (arith, (kept x g).0, (kept y (term x g).left).0, kept_in c (step_of k (term y (term x g).left).left).left)
  kept_in (t.switch l e c) g = let h = (kept e g).0 in let i = kept_in c (term e g).left in omega (arith, h, i)
  kept_in (t.result l e) g = let h = (kept e g).0 in omega (arith, h)
  kept_in (t.block l ds cs) g = let h = kept_declared ds g in let i = kept_through cs (all_declared ds g).left in omega (arith, h, i)
  kept_in (t.repeat l c) g = let h = kept_in c g in omega (arith, h)
  kept_in (t.repeat_while l x c e) g = let h = kept_in c g in let i = (kept e (command c g).left).1 in omega (arith, h, i)
  kept_in _ g = omega arith

  kept_through : (cs : Commands) (g : Supply) → nodes_through (commands cs g).part ≤ tree.nodes_of_commands cs
  kept_through t.no_commands g = omega arith
  kept_through (t.also c cs) g = let h = kept_in c g in let i = kept_through cs (command c g).left in omega (arith, h, i)

  pub kept_declared : (ds : Declarations) (g : Supply) → nodes_declared (all_declared ds g).part ≤ tree.nodes_of_declarations ds
  kept_declared t.no_declarations g = omega arith
  kept_declared (t.declare d ds) g = let h = kept_one d g in let i = kept_declared ds (declared d g).left in omega (arith, h, i)

  kept_one : (d : Declaration) (g : Supply) → nodes_of_one (declared d g).part ≤ tree.nodes_of_declaration d
  kept_one (t.constants l s.Static is) g = statics_kept is g
  kept_one (t.constants l _ is) g = dropped_kept is g
  kept_one (t.definitions l ds) g = kept_defined ds g

  kept_defined : (ds : Definitions) (g : Supply) → nodes_defined (all_defined ds g).part ≤ tree.nodes_of_definitions ds
  kept_defined t.no_definitions g = omega arith
  kept_defined (t.define d ds) g = let h = kept_definition d g in let i = kept_defined ds (defined d g).left in omega (arith, h, i)

  kept_definition : (d : Definition) (g : Supply) → nodes_of_definition (defined d g).part ≤ tree.nodes_of_definition d
  kept_definition (t.routine l x fs c) g = let h = kept_in c (meaning g).left in omega (arith, h)
  kept_definition (t.function l x fs e) g = let h = (kept e (meaning g).left).0 in omega (arith, h)
  kept_definition (t.variables l xs is) g = let h = kept_started is g in omega (arith, h)

  kept_started : (is : Starts) (g : Supply) → nodes_started (starts is g).part ≤ tree.nodes_of_starts is
  kept_started t.no_starts g = omega arith
  kept_started (t.value e is) g = let h = (kept e g).0 in let i = kept_started is (term e g).left in omega (arith, h, i)
  kept_started (t.vector l e is) g = let h = kept_started is (constant g).left in let i = some_nodes e in omega (arith, h, i)
