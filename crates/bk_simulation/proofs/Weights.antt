-- How many turns the nodes of a tree take at most, those in the bodies of its procedures among them.
use Rattle.bk_simulation.proofs.Words.{ℕ, Bool, true, false, ◌+◌, ◌≤◌, arith, Expression, Expressions, Command, Commands, Declaration, Declarations, Definition, Definitions, Starts}
use Rattle.bk_tree.specs.Tree as t

-- ---- How many turns the nodes of a tree take at most where each is gone through once: one for each, one more for what comes before a
-- further round of a loop.

abbrev mutual
  pub turns_of : Bool → Expression → ℕ
  turns_of b (t.parens l e) = 1 + turns_of b e
  turns_of b (t.unary l q e) = 1 + turns_of b e
  turns_of b (t.binary l q m x y) = 1 + (turns_of b x + turns_of b y)
  turns_of b (t.choice l m c x y) = 1 + (turns_of b c + (turns_of b x + turns_of b y))
  turns_of b (t.apply l m f es) = 1 + (turns_among b es + turns_of b f)
  turns_of b (t.valof l c) = 1 + turns_in b c
  turns_of b _ = 1

  pub turns_among : Bool → Expressions → ℕ
  turns_among b t.none = 0
  turns_among b (t.more e es) = turns_of b e + turns_among b es

  pub turns_in : Bool → Command → ℕ
  turns_in b t.empty = 0
  turns_in b (t.assign l xs es) = 1 + (turns_among b xs + turns_among b es)
  turns_in b (t.call l f es) = 1 + (turns_among b es + turns_of b f)
  turns_in b (t.goto l x) = 1
  turns_in b (t.label l x c) = 1 + turns_in b c
  turns_in b (t.case_of l e c) = 1 + turns_in b c
  turns_in b (t.default l c) = 1 + turns_in b c
  turns_in b (t.when l u e c) = 1 + (turns_of b e + turns_in b c)
  turns_in b (t.test l e x y) = 1 + (turns_of b e + (turns_in b x + turns_in b y))
  turns_in b (t.while l u e c) = 2 + (turns_of b e + turns_in b c)
  turns_in b (t.for_loop l x v w h c) = 2 + (turns_of b v + (turns_of b w + turns_in b c))
  turns_in b (t.switch l e c) = 1 + (turns_of b e + turns_in b c)
  turns_in b (t.result l e) = 1 + turns_of b e
  turns_in b (t.simple l k) = 1
  turns_in b (t.block l ds cs) = 1 + (turns_declared b ds + turns_through b cs)
  turns_in b (t.repeat l c) = 2 + turns_in b c
  turns_in b (t.repeat_while l u c e) = 2 + (turns_in b c + turns_of b e)

  pub turns_through : Bool → Commands → ℕ
  turns_through b t.no_commands = 0
  turns_through b (t.also c cs) = turns_in b c + turns_through b cs

  pub turns_declared : Bool → Declarations → ℕ
  turns_declared b t.no_declarations = 0
  turns_declared b (t.declare d ds) = turns_one_declared b d + turns_declared b ds

  pub turns_one_declared : Bool → Declaration → ℕ
  turns_one_declared b (t.constants l s is) = 0
  turns_one_declared b (t.definitions l ds) = turns_defined b ds

  pub turns_defined : Bool → Definitions → ℕ
  turns_defined b t.no_definitions = 0
  turns_defined b (t.define d ds) = turns_one_defined b d + turns_defined b ds

  -- procedures are gone through where they are called; their bodies are counted, or not
  pub turns_one_defined : Bool → Definition → ℕ
  turns_one_defined b (t.variables l xs is) = 1 + turns_started b is
  turns_one_defined true (t.routine l x fs c) = turns_in true c
  turns_one_defined true (t.function l x fs e) = turns_of true e
  turns_one_defined false _ = 0

  pub turns_started : Bool → Starts → ℕ
  turns_started b t.no_starts = 0
  turns_started b (t.value e is) = turns_of b e + turns_started b is
  turns_started b (t.vector l e is) = 1 + turns_started b is

-- no part takes more turns
mutual
  pub of_light : (e : Expression) → turns_of false e ≤ turns_of true e
  of_light (t.parens l e) = let h = of_light e in omega (arith, h)
  of_light (t.unary l q e) = let h = of_light e in omega (arith, h)
  of_light (t.binary l q m a b) = let h = of_light a in let i = of_light b in omega (arith, h, i)
  of_light (t.choice l m c a b) = let g = of_light c in let h = of_light a in let i = of_light b in omega (arith, g, h, i)
  of_light (t.apply l m f es) = let h = among_light es in let i = of_light f in omega (arith, h, i)
  of_light (t.valof l c) = let h = in_light c in omega (arith, h)
  of_light _ = omega arith

  pub among_light : (es : Expressions) → turns_among false es ≤ turns_among true es
  among_light t.none = omega arith
  among_light (t.more e es) = let h = of_light e in let i = among_light es in omega (arith, h, i)

  pub in_light : (c : Command) → turns_in false c ≤ turns_in true c
  in_light (t.assign l xs es) = let h = among_light xs in let i = among_light es in omega (arith, h, i)
  in_light (t.call l f es) = let h = among_light es in let i = of_light f in omega (arith, h, i)
  in_light (t.label l x c) = let h = in_light c in omega (arith, h)
  in_light (t.case_of l e c) = let h = in_light c in omega (arith, h)
  in_light (t.default l c) = let h = in_light c in omega (arith, h)
  in_light (t.when l b e c) = let h = of_light e in let i = in_light c in omega (arith, h, i)
  in_light (t.test l e a b) = let g = of_light e in let h = in_light a in let i = in_light b in omega (arith, g, h, i)
  in_light (t.while l b e c) = let h = of_light e in let i = in_light c in omega (arith, h, i)
  in_light (t.for_loop l x a b h0 c) = let g = of_light a in let h = of_light b in let i = in_light c in omega (arith, g, h, i)
  in_light (t.switch l e c) = let h = of_light e in let i = in_light c in omega (arith, h, i)
  in_light (t.result l e) = let h = of_light e in omega (arith, h)
  in_light (t.block l ds cs) = let h = declared_light ds in let i = through_light cs in omega (arith, h, i)
  in_light (t.repeat l c) = let h = in_light c in omega (arith, h)
  in_light (t.repeat_while l b c e) = let h = in_light c in let i = of_light e in omega (arith, h, i)
  in_light _ = omega arith

  pub through_light : (cs : Commands) → turns_through false cs ≤ turns_through true cs
  through_light t.no_commands = omega arith
  through_light (t.also c cs) = let h = in_light c in let i = through_light cs in omega (arith, h, i)

  declared_light : (ds : Declarations) → turns_declared false ds ≤ turns_declared true ds
  declared_light t.no_declarations = omega arith
  declared_light (t.declare d ds) = let h = one_light d in let i = declared_light ds in omega (arith, h, i)

  one_light : (d : Declaration) → turns_one_declared false d ≤ turns_one_declared true d
  one_light (t.constants l s is) = omega arith
  one_light (t.definitions l ds) = defined_light ds

  defined_light : (ds : Definitions) → turns_defined false ds ≤ turns_defined true ds
  defined_light t.no_definitions = omega arith
  defined_light (t.define d ds) = let h = one_defined_light d in let i = defined_light ds in omega (arith, h, i)

  one_defined_light : (d : Definition) → turns_one_defined false d ≤ turns_one_defined true d
  one_defined_light (t.variables l xs is) = let h = started_light is in omega (arith, h)
  one_defined_light _ = omega arith

  started_light : (is : Starts) → turns_started false is ≤ turns_started true is
  started_light t.no_starts = omega arith
  started_light (t.value e is) = let h = of_light e in let i = started_light is in omega (arith, h, i)
  started_light (t.vector l e is) = let h = started_light is in omega (arith, h)
