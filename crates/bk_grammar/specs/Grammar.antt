-- The grammar: which tree a stretch of symbols may be, brackets being plain. `Reads rows e ts us` says that the symbols ts
-- begin with the expression e of the rows up to `rows`, and that us are left; so do the others. What may take more than it
-- needs takes as much as it can: the symbol after it is one with which it does not go on.
use Rattle.std.specs.Prelude.{ℕ, Bool, true, false, Option, Some, None, ◌<◌, ◌≤◌, ◌≡◌, ◌⊎◌, cond, length, List, [], ◌∷◌}
use Rattle.bk_lex.specs.declared.token.Kind.{Kind}
use Rattle.bk_lex.specs.declared.token.Kind.TheVariants as k
use Rattle.bk_lex.specs.Symbol.{Symbol}
use Rattle.bk_tree.specs.declared.tree.Operator.TheVariants.{Both}
use Rattle.bk_grammar.specs.declared.symbols.Guard.{Guard}
use Rattle.bk_grammar.specs.declared.symbols.Guard.TheVariants as g
use Rattle.bk_tree.specs.Tree.{Mention, Expression, Expressions, Command, Commands, Declaration, Declarations, Items, Definition, Definitions, Starts, name, number, text, truth, query, parens, unary, binary, choice, apply, valof, table, none, more, empty, assign, call, goto, label, case_of, default, when, test, while, for_loop, switch, result, simple, block, repeat, repeat_while, no_commands, also, constants, definitions, no_declarations, declare, no_items, item, routine, function, variables, no_definitions, define, no_starts, value, vector}
use Rattle.bk_tree.specs.Parts.{at_expression, at_command, at_expressions, at_names, size, start_count}
use Rattle.bk_lex.specs.Values.{upper_name}
use Rattle.bk_grammar.specs.Rows.{row, inner, left, following, is_relation, infix_of, prefix_of, leaf, simple_of, sort_of, guard_of, sign_of, begins_command, repeats, assigns, is_and, is_comma, Fails, Stops}
use Rattle.bk_grammar.specs.Placed.{position_of}

-- one symbol, which is this operand by itself
abbrev pub Leaf : Expression → List Symbol → List Symbol → Type 0
Leaf e ts us = (t : Symbol) × (ts ≡ t ∷ us) × (leaf t.kind (position_of t) t.text ≡ Some e)

-- a name in any letter case
abbrev pub SpellsName : ℕ → List ℕ → Symbol → Type 0
SpellsName at letters t = (t.kind ≡ k.Name) × (position_of t ≡ at) × (upper_name t.text ≡ letters)

-- at least one name, with commas between
abbrev pub Names : List Mention → List Symbol → List Symbol → Type 0
Names [] ts us = ⊥
Names (x ∷ []) ts us = (t : Symbol) × (ts ≡ t ∷ us) × SpellsName x.at x.letters t
Names (x ∷ (y ∷ xs)) ts us = (t : Symbol) × (d : Symbol) × (ms : List Symbol) × (ts ≡ t ∷ d ∷ ms) × SpellsName x.at x.letters t × (d.kind ≡ k.Comma) × Names (y ∷ xs) ms us

-- names in parentheses, or none, after the `(`
abbrev pub Formals : List Mention → List Symbol → List Symbol → Type 0
Formals [] ts us = (c : Symbol) × (ts ≡ c ∷ us) × (c.kind ≡ k.Close)
Formals (x ∷ xs) ts us = (c : Symbol) × (c.kind ≡ k.Close) × Names (x ∷ xs) ts (c ∷ us)

-- any number of semicolons
abbrev pub Semis : List Symbol → List Symbol → Type 0
Semis [] us = [] ≡ us
Semis (t ∷ ts) us = ((t ∷ ts) ≡ us) ⊎ ((t.kind ≡ k.Semicolon) × Semis ts us)

-- the right operand of a relation, which a further relation shares
abbrev pub last : Expression → Option Expression
last (binary l Both s a (binary m o n b c)) = cond (is_relation o) (Some c) None
last (binary l o s a b) = cond (is_relation o) (Some b) None
last _ = None

-- a command that is not empty; it has all that repeats it
abbrev pub Full : Command → List Symbol → Type 0
Full empty us = ⊥
Full c us = Fails repeats us

-- the same, or an empty one
abbrev pub EndsCommand : Command → List Symbol → Type 0
EndsCommand empty us = Unit {0}
EndsCommand c us = Fails repeats us

abbrev pub Filled : Command → Type 0
Filled empty = ⊥
Filled c = Unit {0}

abbrev pub if_or_unless : Bool → Guard
if_or_unless true = g.If
if_or_unless false = g.Unless

abbrev pub while_or_until : Bool → Guard
while_or_until true = g.While
while_or_until false = g.Until

abbrev pub repeats_while : Bool → Kind
repeats_while true = k.RepeatWhile
repeats_while false = k.RepeatUntil

abbrev mutual
  pub Reads : ℕ → Expression → List Symbol → List Symbol → Type 0
  Reads rows (name l x) ts us = Leaf (name l x) ts us
  Reads rows (number l n) ts us = Leaf (number l n) ts us
  Reads rows (text l x) ts us = Leaf (text l x) ts us
  Reads rows (truth l b) ts us = Leaf (truth l b) ts us
  Reads rows (query l) ts us = Leaf (query l) ts us
  Reads rows (parens l e) ts us = (t : Symbol) × (ms : List Symbol) × (c : Symbol) × (ts ≡ t ∷ ms) × (t.kind ≡ k.Open) × (position_of t ≡ l) × (c.kind ≡ k.Close) × Reads 12 e ms (c ∷ us)
  -- a prefix operator may begin any operand
  Reads rows (unary l p e) ts us = (0 < rows) × (t : Symbol) × (ms : List Symbol) × (ts ≡ t ∷ ms) × (prefix_of t.kind ≡ Some p) × (position_of t ≡ l) × Reads (following p) e ms us × Stops (following p) us
  -- an `&`, or one more relation of a chain: x ends with the operand b, of which this is a copy
  Reads rows (binary l Both s x (binary m o n b c)) ts us =
      ((9 ≤ rows) × (t : Symbol) × (ms : List Symbol) × (t.kind ≡ k.Ampersand) × (position_of t ≡ s) × (l ≡ at_expression x) × Reads 9 x ts (t ∷ ms) × Reads 8 (binary m o n b c) ms us × Stops 8 us)
      ⊎ ((6 ≤ rows) × (t : Symbol) × (ms : List Symbol) × (infix_of t.kind ≡ Some o) × (position_of t ≡ s) × (n ≡ s) × (l ≡ at_expression x) × (m ≡ at_expression b) × (is_relation o ≡ true) × (last x ≡ Some b) × Reads 6 x ts (t ∷ ms) × Reads 5 c ms us × Stops 5 us)
  Reads rows (binary l o s a b) ts us = (row o ≤ rows) × (t : Symbol) × (ms : List Symbol) × (infix_of t.kind ≡ Some o) × (position_of t ≡ s) × (l ≡ at_expression a) × Reads (left o) a ts (t ∷ ms) × Reads (inner o) b ms us × Stops (inner o) us
  Reads rows (choice l s c a b) ts us = (12 ≤ rows) × (t : Symbol) × (ms : List Symbol) × (d : Symbol) × (ns : List Symbol) × (t.kind ≡ k.Arrow) × (position_of t ≡ s) × (l ≡ at_expression c) × (d.kind ≡ k.Comma) × Reads 11 c ts (t ∷ ms) × Reads 12 a ms (d ∷ ns) × Reads 12 b ns us × Stops 12 us
  Reads rows (apply l s f none) ts us = (t : Symbol) × (c : Symbol) × (t.kind ≡ k.Open) × (position_of t ≡ s) × (l ≡ at_expression f) × (c.kind ≡ k.Close) × Reads 0 f ts (t ∷ c ∷ us)
  Reads rows (apply l s f (more e es)) ts us = (t : Symbol) × (ms : List Symbol) × (c : Symbol) × (t.kind ≡ k.Open) × (position_of t ≡ s) × (l ≡ at_expression f) × (c.kind ≡ k.Close) × Reads 0 f ts (t ∷ ms) × Each (more e es) ms (c ∷ us)
  Reads rows (valof l c) ts us = (t : Symbol) × (ms : List Symbol) × (ts ≡ t ∷ ms) × (t.kind ≡ k.Valof) × (position_of t ≡ l) × Does c ms us × Full c us
  Reads rows (table l es) ts us = (t : Symbol) × (ms : List Symbol) × (ts ≡ t ∷ ms) × (t.kind ≡ k.Table) × (position_of t ≡ l) × Each es ms us × Fails is_comma us

  -- at least one expression, with commas between
  pub Each : Expressions → List Symbol → List Symbol → Type 0
  Each none ts us = ⊥
  Each (more e none) ts us = Reads 12 e ts us × Stops 12 us
  Each (more e (more f es)) ts us = (d : Symbol) × (ms : List Symbol) × (d.kind ≡ k.Comma) × Reads 12 e ts (d ∷ ms) × Each (more f es) ms us

  pub Does : Command → List Symbol → List Symbol → Type 0
  Does empty ts us = (ts ≡ us) × Fails begins_command us
  Does (assign l xs es) ts us = (t : Symbol) × (ms : List Symbol) × (t.kind ≡ k.Assign) × (size xs ≡ size es) × (l ≡ at_expressions xs) × Each xs ts (t ∷ ms) × Each es ms us
  Does (call l f none) ts us = (t : Symbol) × (c : Symbol) × (t.kind ≡ k.Open) × (l ≡ at_expression f) × (c.kind ≡ k.Close) × Reads 0 f ts (t ∷ c ∷ us) × Stops 12 us × Fails assigns us
  Does (call l f (more e es)) ts us = (t : Symbol) × (ms : List Symbol) × (c : Symbol) × (t.kind ≡ k.Open) × (l ≡ at_expression f) × (c.kind ≡ k.Close) × Reads 0 f ts (t ∷ ms) × Each (more e es) ms (c ∷ us) × Stops 12 us × Fails assigns us
  Does (goto l x) ts us = (t : Symbol) × (n : Symbol) × (ts ≡ t ∷ n ∷ us) × (t.kind ≡ k.Goto) × (position_of t ≡ l) × SpellsName x.at x.letters n
  Does (label l x c) ts us = (n : Symbol) × (d : Symbol) × (ms : List Symbol) × (ts ≡ n ∷ d ∷ ms) × SpellsName l x n × (d.kind ≡ k.Colon) × Does c ms us × EndsCommand c us
  Does (case_of l e c) ts us = (t : Symbol) × (ms : List Symbol) × (d : Symbol) × (ns : List Symbol) × (ts ≡ t ∷ ms) × (guard_of t.kind ≡ Some (g.Case)) × (position_of t ≡ l) × Reads 12 e ms (d ∷ ns) × (d.kind ≡ sign_of (g.Case)) × Does c ns us × EndsCommand c us
  Does (default l c) ts us = (t : Symbol) × (d : Symbol) × (ms : List Symbol) × (ts ≡ t ∷ d ∷ ms) × (t.kind ≡ k.Default) × (position_of t ≡ l) × (d.kind ≡ k.Colon) × Does c ms us × EndsCommand c us
  Does (when l b e c) ts us = (t : Symbol) × (ms : List Symbol) × (d : Symbol) × (ns : List Symbol) × (ts ≡ t ∷ ms) × (guard_of t.kind ≡ Some (if_or_unless b)) × (position_of t ≡ l) × Reads 12 e ms (d ∷ ns) × (d.kind ≡ sign_of (if_or_unless b)) × Does c ns us × Full c us
  Does (test l e a b) ts us = (t : Symbol) × (ms : List Symbol) × (d : Symbol) × (ns : List Symbol) × (o : Symbol) × (rs : List Symbol) × (ts ≡ t ∷ ms) × (t.kind ≡ k.Test) × (position_of t ≡ l) × Reads 12 e ms (d ∷ ns) × (d.kind ≡ k.Do) × Does a ns (o ∷ rs) × Full a (o ∷ rs) × (o.kind ≡ k.Or) × Does b rs us × Full b us
  Does (while l b e c) ts us = (t : Symbol) × (ms : List Symbol) × (d : Symbol) × (ns : List Symbol) × (ts ≡ t ∷ ms) × (guard_of t.kind ≡ Some (while_or_until b)) × (position_of t ≡ l) × Reads 12 e ms (d ∷ ns) × (d.kind ≡ sign_of (while_or_until b)) × Does c ns us × Full c us
  Does (for_loop l x a b none c) ts us = (t : Symbol) × (n : Symbol) × (q : Symbol) × (ms : List Symbol) × (o : Symbol) × (ns : List Symbol) × (d : Symbol) × (rs : List Symbol) × (ts ≡ t ∷ n ∷ q ∷ ms) × (t.kind ≡ k.For) × (position_of t ≡ l) × SpellsName x.at x.letters n × (q.kind ≡ k.Equal) × Reads 12 a ms (o ∷ ns) × (o.kind ≡ k.To) × Reads 12 b ns (d ∷ rs) × (d.kind ≡ k.Do) × Does c rs us × Full c us
  Does (for_loop l x a b (more h none) c) ts us = (t : Symbol) × (n : Symbol) × (q : Symbol) × (ms : List Symbol) × (o : Symbol) × (ns : List Symbol) × (y : Symbol) × (qs : List Symbol) × (d : Symbol) × (rs : List Symbol) × (ts ≡ t ∷ n ∷ q ∷ ms) × (t.kind ≡ k.For) × (position_of t ≡ l) × SpellsName x.at x.letters n × (q.kind ≡ k.Equal) × Reads 12 a ms (o ∷ ns) × (o.kind ≡ k.To) × Reads 12 b ns (y ∷ qs) × (y.kind ≡ k.By) × Reads 12 h qs (d ∷ rs) × (d.kind ≡ k.Do) × Does c rs us × Full c us
  Does (for_loop l x a b (more h (more i hs)) c) ts us = ⊥
  Does (switch l e c) ts us = (t : Symbol) × (ms : List Symbol) × (d : Symbol) × (ns : List Symbol) × (ts ≡ t ∷ ms) × (guard_of t.kind ≡ Some (g.SwitchOn)) × (position_of t ≡ l) × Reads 12 e ms (d ∷ ns) × (d.kind ≡ sign_of (g.SwitchOn)) × Does c ns us × Full c us
  Does (result l e) ts us = (t : Symbol) × (ms : List Symbol) × (ts ≡ t ∷ ms) × (t.kind ≡ k.ResultIs) × (position_of t ≡ l) × Reads 12 e ms us × Stops 12 us
  Does (simple l w) ts us = (t : Symbol) × (ts ≡ t ∷ us) × (simple_of t.kind ≡ Some w) × (position_of t ≡ l)
  Does (block l no_declarations cs) ts us = (t : Symbol) × (ms : List Symbol) × (c : Symbol) × (ts ≡ t ∷ ms) × (t.kind ≡ k.SectionOpen) × (position_of t ≡ l) × (c.kind ≡ k.SectionClose) × Body cs ms (c ∷ us)
  Does (block l (declare d ds) cs) ts us = (t : Symbol) × (ms : List Symbol) × (ns : List Symbol) × (c : Symbol) × (ts ≡ t ∷ ms) × (t.kind ≡ k.SectionOpen) × (position_of t ≡ l) × (c.kind ≡ k.SectionClose) × Heads true (declare d ds) ms ns × Parted cs ns (c ∷ us)
  Does (repeat l c) ts us = (t : Symbol) × (t.kind ≡ k.Repeat) × (l ≡ at_command c) × Filled c × Does c ts (t ∷ us)
  Does (repeat_while l b c e) ts us = (t : Symbol) × (ms : List Symbol) × (t.kind ≡ repeats_while b) × (l ≡ at_command c) × Filled c × Does c ts (t ∷ ms) × Reads 12 e ms us × Stops 12 us

  -- the commands of a block that has no declarations
  pub Body : Commands → List Symbol → List Symbol → Type 0
  Body no_commands ts us = Semis ts us
  Body (also c cs) ts us = (ms : List Symbol) × (ns : List Symbol) × Semis ts ms × Does c ms ns × Full c ns × Parted cs ns us

  -- the commands after a declaration or a command: a semicolon at least parts each from what is before it
  pub Parted : Commands → List Symbol → List Symbol → Type 0
  Parted no_commands ts us = Semis ts us
  Parted (also c cs) ts us = (d : Symbol) × (rs : List Symbol) × (ms : List Symbol) × (ns : List Symbol) × (ts ≡ d ∷ rs) × (d.kind ≡ k.Semicolon) × Semis rs ms × Does c ms ns × Full c ns × Parted cs ns us

  -- declarations, with any number of semicolons before each; whether they are in a block
  pub Heads : Bool → Declarations → List Symbol → List Symbol → Type 0
  Heads inside no_declarations ts us = ts ≡ us
  Heads inside (declare d ds) ts us = (ms : List Symbol) × (ns : List Symbol) × Semis ts ms × Declares inside d ms ns × Heads inside ds ns us

  pub Declares : Bool → Declaration → List Symbol → List Symbol → Type 0
  Declares inside (constants l s is) ts us = (t : Symbol) × (b : Symbol) × (ms : List Symbol) × (c : Symbol) × (ts ≡ t ∷ b ∷ ms) × (sort_of t.kind ≡ Some s) × (position_of t ≡ l) × (b.kind ≡ k.SectionOpen) × (c.kind ≡ k.SectionClose) × Listed is ms (c ∷ us)
  Declares inside (definitions l ds) ts us = (t : Symbol) × (ms : List Symbol) × (ts ≡ t ∷ ms) × (t.kind ≡ k.Let) × (position_of t ≡ l) × Defined inside ds ms us

  -- at least one item, with semicolons between and after
  pub Listed : Items → List Symbol → List Symbol → Type 0
  Listed no_items ts us = ⊥
  Listed (item l x e no_items) ts us = (n : Symbol) × (q : Symbol) × (ms : List Symbol) × (ns : List Symbol) × (ts ≡ n ∷ q ∷ ms) × SpellsName l x n × ((q.kind ≡ k.Equal) ⊎ (q.kind ≡ k.Colon)) × Reads 12 e ms ns × Stops 12 ns × Semis ns us
  Listed (item l x e (item m y f is)) ts us = (n : Symbol) × (q : Symbol) × (ms : List Symbol) × (d : Symbol) × (ns : List Symbol) × (rs : List Symbol) × (ts ≡ n ∷ q ∷ ms) × SpellsName l x n × ((q.kind ≡ k.Equal) ⊎ (q.kind ≡ k.Colon)) × Reads 12 e ms (d ∷ ns) × (d.kind ≡ k.Semicolon) × Semis ns rs × Listed (item m y f is) rs us

  -- at least one definition, with AND between
  pub Defined : Bool → Definitions → List Symbol → List Symbol → Type 0
  Defined inside no_definitions ts us = ⊥
  Defined inside (define d no_definitions) ts us = Defines inside d ts us × Fails is_and us
  Defined inside (define d (define e ds)) ts us = (t : Symbol) × (ms : List Symbol) × (t.kind ≡ k.And) × Defines inside d ts (t ∷ ms) × Defined inside (define e ds) ms us

  -- variables are in blocks alone
  pub Defines : Bool → Definition → List Symbol → List Symbol → Type 0
  Defines inside (routine l x fs c) ts us = (n : Symbol) × (o : Symbol) × (ms : List Symbol) × (t : Symbol) × (ns : List Symbol) × (ts ≡ n ∷ o ∷ ms) × SpellsName l x n × (o.kind ≡ k.Open) × Formals fs ms (t ∷ ns) × (t.kind ≡ k.Be) × Does c ns us × Full c us
  Defines inside (function l x fs e) ts us = (n : Symbol) × (o : Symbol) × (ms : List Symbol) × (t : Symbol) × (ns : List Symbol) × (ts ≡ n ∷ o ∷ ms) × SpellsName l x n × (o.kind ≡ k.Open) × Formals fs ms (t ∷ ns) × (t.kind ≡ k.Equal) × Reads 12 e ns us × Stops 12 us
  Defines inside (variables l xs is) ts us = (inside ≡ true) × (t : Symbol) × (ms : List Symbol) × (t.kind ≡ k.Equal) × (l ≡ at_names xs) × (length xs ≡ start_count is) × Names xs ts (t ∷ ms) × Started is ms us

  -- at least one item of a LET, with commas between
  pub Started : Starts → List Symbol → List Symbol → Type 0
  Started no_starts ts us = ⊥
  Started (value e no_starts) ts us = Reads 12 e ts us × Stops 12 us
  Started (value e (value f is)) ts us = (d : Symbol) × (ms : List Symbol) × (d.kind ≡ k.Comma) × Reads 12 e ts (d ∷ ms) × Started (value f is) ms us
  Started (value e (vector m f is)) ts us = (d : Symbol) × (ms : List Symbol) × (d.kind ≡ k.Comma) × Reads 12 e ts (d ∷ ms) × Started (vector m f is) ms us
  Started (vector l e no_starts) ts us = (t : Symbol) × (ns : List Symbol) × (ts ≡ t ∷ ns) × (t.kind ≡ k.Vec) × (position_of t ≡ l) × Reads 12 e ns us × Stops 12 us
  Started (vector l e (value f is)) ts us = (t : Symbol) × (ns : List Symbol) × (d : Symbol) × (ms : List Symbol) × (ts ≡ t ∷ ns) × (t.kind ≡ k.Vec) × (position_of t ≡ l) × (d.kind ≡ k.Comma) × Reads 12 e ns (d ∷ ms) × Started (value f is) ms us
  Started (vector l e (vector m f is)) ts us = (t : Symbol) × (ns : List Symbol) × (d : Symbol) × (ms : List Symbol) × (ts ≡ t ∷ ns) × (t.kind ≡ k.Vec) × (position_of t ≡ l) × (d.kind ≡ k.Comma) × Reads 12 e ns (d ∷ ms) × Started (vector m f is) ms us

-- a section: declarations, with any number of semicolons before, between and after them
abbrev pub Section : Declarations → List Symbol → Type 0
Section ds ts = (us : List Symbol) × Heads false ds ts us × Semis us []
