-- How the program of a section comes from its tree, from what its names mean and from the words of its constants, both in the
-- source's order. Going through the tree, each name takes the next meaning, and each constant the next word.
use Rattle.std.specs.Prelude.{ℕ, None, List, [], ◌∷◌, length}
use Rattle.bk_tree.specs.declared.tree.Operator.TheVariants as o
use Rattle.bk_tree.specs.declared.tree.Prefix.TheVariants as q
use Rattle.bk_tree.specs.declared.tree.Sort.TheVariants as s
use Rattle.bk_tree.specs.Tree.{Expression, Expressions, Command, Commands, Declaration, Declarations, Items, Definition, Definitions, Starts, name, number, text, truth, query, parens, unary, binary, choice, apply, valof, table, none, more, empty, assign, call, goto, label, case_of, default, when, test, while, for_loop, switch, result, simple, block, repeat, repeat_while, no_commands, also, constants, definitions, no_declarations, declare, no_items, item, routine, function, variables, no_definitions, define, no_starts, value, vector}
use Rattle.bk_scope.specs.declared.bound.Bound.{Bound}
use Rattle.bk_scope.specs.declared.bound.Bound.TheVariants.{Constant}
use Rattle.bk_trans.specs.Program as p
use Rattle.bk_trans.specs.Program.{StaticItem, Term, Terms, Condition, Lvalue, Lvalues, NamedCommand, NamedCommands}

-- the meanings and the words that are left
pub record Supply : Type 0 where
  pub meanings : List Bound
  pub words : List ℕ

-- a part of the program, and what is left after it
pub record Filled (A : Type 0) : Type 0 where
  pub part : A
  pub left : Supply

abbrev pub filled : {A : Type 0} → A → Supply → Filled A
filled x g = record { part = x; left = g }

-- Parts made of parts, one after another
abbrev pub one : {A B : Type 0} → (A → B) → Filled A → Filled B
one f x = filled (f x.part) x.left

abbrev pub two : {A B C : Type 0} → (A → B → C) → Filled A → (Supply → Filled B) → Filled C
two f x y = one (f x.part) (y x.left)

abbrev pub three : {A B C D : Type 0} → (A → B → C → D) → Filled A → (Supply → Filled B) → (Supply → Filled C) → Filled D
three f x y z = two (f x.part) (y x.left) z

abbrev pub four : {A B C D E : Type 0} → (A → B → C → D → E) → Filled A → (Supply → Filled B) → (Supply → Filled C) → (Supply → Filled D) → Filled E
four f x y z w = three (f x.part) (y x.left) z w

-- the next meaning and the next word; where none is left, one that means nothing, and 0
abbrev pub next_of : List Bound → Supply → Filled Bound
next_of [] g = filled (Constant None) g
next_of (b ∷ bs) g = filled b (record { meanings = bs; words = g.words })

abbrev pub meaning : Supply → Filled Bound
meaning g = next_of g.meanings g

abbrev pub next_word : List ℕ → Supply → Filled ℕ
next_word [] g = filled 0 g
next_word (w ∷ ws) g = filled w (record { meanings = g.meanings; words = ws })

abbrev pub constant : Supply → Filled ℕ
constant g = next_word g.words g

-- the words of several constants
abbrev pub constants_of : Expressions → Supply → Filled (List ℕ)
constants_of none g = filled [] g
constants_of (more e es) g = two (λ w ws. w ∷ ws) (constant g) (constants_of es)

-- a step that is not written is 1
abbrev pub step_of : Expressions → Supply → Filled ℕ
step_of none g = filled 1 g
step_of (more e es) g = two (λ w ws. w) (constant g) (constants_of es)

-- the items of STATIC, and those of MANIFEST and GLOBAL, whose words are in the meanings
abbrev pub static_items : Items → Supply → Filled (List StaticItem)
static_items no_items g = filled [] g
static_items (item l x e is) g = three (λ w b ks. record { bound = b; word = w } ∷ ks) (constant g) meaning (static_items is)

abbrev pub dropped : Items → Supply → Filled (List StaticItem)
dropped no_items g = filled [] g
dropped (item l x e is) g = two (λ w ks. ks) (constant g) (dropped is)

abbrev mutual
  pub term : Expression → Supply → Filled Term
  term (name l x) g = one p.named (meaning g)
  term (number l n) g = filled (p.number n) g
  term (text l x) g = filled (p.text x) g
  term (truth l b) g = filled (p.truth b) g
  term (query l) g = filled p.query g
  term (parens l e) g = one p.parens (term e g)
  term (unary l q.Address e) g = one p.address (lvalue e g)
  term (unary l q.Contents e) g = one (p.unary q.Contents) (term e g)
  term (unary l q.Plus e) g = one (p.unary q.Plus) (term e g)
  term (unary l q.Minus e) g = one (p.unary q.Minus) (term e g)
  term (unary l q.Not e) g = one (p.unary q.Not) (term e g)
  term (binary l o m a b) g = two (p.binary o) (term a g) (term b)
  term (choice l m c a b) g = three p.choice (condition c g) (term a) (term b)
  term (apply l m e es) g = two p.apply (term e g) (terms es)
  term (valof l c) g = one p.valof (command c g)
  term (table l es) g = one p.table (constants_of es g)

  pub terms : Expressions → Supply → Filled Terms
  terms none g = filled p.none g
  terms (more e es) g = two p.more (term e g) (terms es)

  -- `&`, `|` and NOT work on truth here
  pub condition : Expression → Supply → Filled Condition
  condition (parens l e) g = one p.within (condition e g)
  condition (unary l q.Not e) g = one p.fails (condition e g)
  condition (binary l o.Both m a b) g = two p.both (condition a g) (condition b)
  condition (binary l o.Either m a b) g = two p.either (condition a g) (condition b)
  condition (name l x) g = one p.holds (one p.named (meaning g))
  condition (number l n) g = filled (p.holds (p.number n)) g
  condition (text l x) g = filled (p.holds (p.text x)) g
  condition (truth l b) g = filled (p.holds (p.truth b)) g
  condition (query l) g = filled (p.holds p.query) g
  condition (unary l q.Address e) g = one p.holds (one p.address (lvalue e g))
  condition (unary l q.Contents e) g = one p.holds (one (p.unary q.Contents) (term e g))
  condition (unary l q.Plus e) g = one p.holds (one (p.unary q.Plus) (term e g))
  condition (unary l q.Minus e) g = one p.holds (one (p.unary q.Minus) (term e g))
  condition (binary l o m a b) g = one p.holds (two (p.binary o) (term a g) (term b))
  condition (choice l m c a b) g = one p.holds (three p.choice (condition c g) (term a) (term b))
  condition (apply l m e es) g = one p.holds (two p.apply (term e g) (terms es))
  condition (valof l c) g = one p.holds (one p.valof (command c g))
  condition (table l es) g = one p.holds (one p.table (constants_of es g))

  pub lvalue : Expression → Supply → Filled Lvalue
  lvalue (name l x) g = one p.word (meaning g)
  lvalue (parens l e) g = one p.inside (lvalue e g)
  lvalue (unary l q.Contents e) g = one p.contents (term e g)
  lvalue (binary l o.Subscript m a b) g = two p.subscript (term a g) (term b)
  lvalue (binary l o.Byte m a b) g = two p.byte (term a g) (term b)
  lvalue e g = filled p.nowhere g

  pub lvalues : Expressions → Supply → Filled Lvalues
  lvalues none g = filled p.no_lvalues g
  lvalues (more e es) g = two p.onto (lvalue e g) (lvalues es)

  pub command : Command → Supply → Filled NamedCommand
  command empty g = filled p.empty g
  command (assign l xs es) g = two p.assign (lvalues xs g) (terms es)
  command (call l e es) g = two p.call (term e g) (terms es)
  command (goto l x) g = one p.goto (meaning g)
  command (label l x c) g = two p.label (meaning g) (command c)
  command (case_of l e c) g = two p.case_of (constant g) (command c)
  command (default l c) g = one p.default (command c g)
  command (when l b e c) g = two (p.when b) (condition e g) (command c)
  command (test l e a b) g = three p.test (condition e g) (command a) (command b)
  command (while l b e c) g = two (p.while b) (condition e g) (command c)
  command (for_loop l x a b h c) g = four p.for_loop (term a g) (term b) (step_of h) (command c)
  command (switch l e c) g = two p.switch (term e g) (command c)
  command (result l e) g = one p.result (term e g)
  command (simple l w) g = filled (p.simple w) g
  command (block l ds cs) g = two p.block (all_declared ds g) (commands cs)
  command (repeat l c) g = one p.repeat (command c g)
  command (repeat_while l b c e) g = two (p.repeat_while b) (command c g) (condition e)

  pub commands : Commands → Supply → Filled NamedCommands
  commands no_commands g = filled p.no_named_commands g
  commands (also c cs) g = two p.also (command c g) (commands cs)

  pub all_declared : Declarations → Supply → Filled p.Declarations
  all_declared no_declarations g = filled p.no_declarations g
  all_declared (declare d ds) g = two p.declare (declared d g) (all_declared ds)

  pub declared : Declaration → Supply → Filled p.Declaration
  declared (constants l s.Static is) g = one p.statics (static_items is g)
  declared (constants l s.Manifest is) g = one p.statics (dropped is g)
  declared (constants l s.Global is) g = one p.statics (dropped is g)
  declared (definitions l ds) g = one p.lets (all_defined ds g)

  pub all_defined : Definitions → Supply → Filled p.Definitions
  all_defined no_definitions g = filled p.no_definitions g
  all_defined (define d ds) g = two p.define (defined d g) (all_defined ds)

  pub defined : Definition → Supply → Filled p.Definition
  defined (routine l x fs c) g = two (λ b y. p.routine b x (length fs) y) (meaning g) (command c)
  defined (function l x fs e) g = two (λ b y. p.function b x (length fs) y) (meaning g) (term e)
  defined (variables l xs is) g = one p.variables (starts is g)

  pub starts : Starts → Supply → Filled p.Starts
  starts no_starts g = filled p.no_starts g
  starts (value e is) g = two p.value (term e g) (starts is)
  starts (vector l e is) g = two p.vector (constant g) (starts is)

-- the program of a section
abbrev pub program_of : Declarations → List Bound → List ℕ → p.Declarations
program_of ds meanings words = (all_declared ds (record { meanings = meanings; words = words })).part
