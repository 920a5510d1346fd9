-- The named tree of a tree under the declarations in scope (`bs`), by what is around it (`p`) and where it is (`s`): these
-- arguments are those of `reported` in bk_scope, and move along in the same way. Each name becomes what it means in scope there, and
-- each constant its word.
use Rattle.std.specs.Prelude.{ℕ, ◌+◌, true, false, Option, Some, None, List, [], ◌∷◌, length}
use Rattle.bk_tree.specs.declared.tree.Operator.TheVariants as o
use Rattle.bk_tree.specs.declared.tree.Prefix.TheVariants as q
use Rattle.bk_tree.specs.declared.tree.Sort.TheVariants as sort
use Rattle.bk_tree.specs.Tree.{Expression, Expressions, Command, Commands, Declaration, Declarations, Items, Definition, Definitions, Starts, name, number, text, truth, query, parens, unary, binary, choice, apply, valof, table, none, more, empty, assign, call, goto, label, case_of, default, when, test, while, for_loop, switch, result, simple, block, repeat, repeat_while, no_commands, also, constants, definitions, no_declarations, declare, no_items, item, routine, function, variables, no_definitions, define, no_starts, value, vector}
use Rattle.bk_tree.specs.Parts.{size}
use Rattle.bk_scope.specs.declared.bound.Bound.{Bound}
use Rattle.bk_scope.specs.declared.bound.Bound.TheVariants.{Constant, Static, Variable}
use Rattle.bk_scope.specs.declared.place.Enclosing.{Enclosing}
use Rattle.bk_scope.specs.Scope.{Binding, bound_in, bind}
use Rattle.bk_scope.specs.Constants.{constant_word}
use Rattle.bk_scope.specs.Places.{deeper, looping, switching, labelled, valued, called, outermost}
use Rattle.bk_scope.specs.Entering.{labels_of, labels_of_each, with_formals}
use Rattle.bk_scope.specs.Names.{words_of_start}
use Rattle.bk_scope.specs.Spots.{Spot, procedures_in, onward, past, numbered, following, after_each, after_done, after_declared, after_one_declared, after_one_defined, after_constant, symbols_each, beginning}
use Rattle.bk_scope.specs.Scoping.{labels_in_scope, procedures_in_scope, place_after_one_defined, scope_after_one, place_after_one, scope_after, place_after_all}
use Rattle.bk_trans.specs.Program as t
use Rattle.bk_trans.specs.Program.{StaticItem, Term, Terms, Condition, Lvalue, Lvalues, NamedCommand, NamedCommands}

-- what a name means, and the word of a constant; a name that means nothing and a constant without a word are no part of a section
-- without faults
abbrev pub meant : Option Bound → Bound
meant None = Constant None
meant (Some b) = b

abbrev pub worth : Option ℕ → ℕ
worth None = 0
worth (Some w) = w

abbrev pub words_named : List Binding → Expressions → List ℕ
words_named bs none = []
words_named bs (more e es) = worth (constant_word bs e) ∷ words_named bs es

-- a step that is not written is 1
abbrev pub step_named : List Binding → Expressions → ℕ
step_named bs none = 1
step_named bs (more e es) = worth (constant_word bs e)

abbrev pub statics_named : List Binding → Spot → Items → List StaticItem
statics_named bs s no_items = []
statics_named bs s (item l x e is) =
    record { bound = Static s.number; word = worth (constant_word bs e) } ∷ statics_named bs (numbered 1 (after_constant e (past 1 s))) is

abbrev mutual
  pub term_named : List Binding → Enclosing → Spot → Expression → Term
  term_named bs p s (name l x) = t.named (meant (bound_in bs x))
  term_named bs p s (number l n) = t.number n
  term_named bs p s (text l x) = t.text x
  term_named bs p s (truth l b) = t.truth b
  term_named bs p s (query l) = t.query
  term_named bs p s (parens l e) = t.parens (term_named bs p (past 1 s) e)
  term_named bs p s (unary l q.Address e) = t.address (lvalue_named bs p (past 1 s) e)
  term_named bs p s (unary l f e) = t.unary f (term_named bs p (past 1 s) e)
  term_named bs p s (binary l f m a b) = t.binary f (term_named bs p s a) (term_named bs (deeper 1 p) (past 1 (following a s)) b)
  term_named bs p s (choice l m c a b) =
      t.choice (condition_named bs p s c) (term_named bs p (past 1 (following c s)) a) (term_named bs p (following a (past 1 (following c s))) b)
  term_named bs p s (apply l m e es) = t.apply (term_named bs (deeper (size es + 2) p) s e) (terms_named 1 bs (deeper 2 p) (past 1 (following e s)) es)
  term_named bs p s (valof l c) =
      t.valof (command_named (labels_in_scope p.procedure (s.number + 1) (labels_of c) bs) (labelled s.number (valued p)) (onward 1 (1 + length (labels_of c)) s) c)
  term_named bs p s (table l es) = t.table (words_named bs es)

  -- each so many words deeper
  pub terms_named : ℕ → List Binding → Enclosing → Spot → Expressions → Terms
  terms_named n bs p s none = t.none
  terms_named n bs p s (more e es) = t.more (term_named bs p s e) (terms_named n bs (deeper n p) (following e s) es)

  -- `&`, `|` and NOT work on truth here, and leave nothing on the frame
  pub condition_named : List Binding → Enclosing → Spot → Expression → Condition
  condition_named bs p s (parens l e) = t.within (condition_named bs p (past 1 s) e)
  condition_named bs p s (unary l q.Not e) = t.fails (condition_named bs p (past 1 s) e)
  condition_named bs p s (binary l o.Both m a b) = t.both (condition_named bs p s a) (condition_named bs p (past 1 (following a s)) b)
  condition_named bs p s (binary l o.Either m a b) = t.either (condition_named bs p s a) (condition_named bs p (past 1 (following a s)) b)
  condition_named bs p s (name l x) = t.holds (t.named (meant (bound_in bs x)))
  condition_named bs p s (number l n) = t.holds (t.number n)
  condition_named bs p s (text l x) = t.holds (t.text x)
  condition_named bs p s (truth l b) = t.holds (t.truth b)
  condition_named bs p s (query l) = t.holds t.query
  condition_named bs p s (unary l q.Address e) = t.holds (t.address (lvalue_named bs p (past 1 s) e))
  condition_named bs p s (unary l f e) = t.holds (t.unary f (term_named bs p (past 1 s) e))
  condition_named bs p s (binary l f m a b) = t.holds (t.binary f (term_named bs p s a) (term_named bs (deeper 1 p) (past 1 (following a s)) b))
  condition_named bs p s (choice l m c a b) =
      t.holds (t.choice (condition_named bs p s c) (term_named bs p (past 1 (following c s)) a) (term_named bs p (following a (past 1 (following c s))) b))
  condition_named bs p s (apply l m e es) =
      t.holds (t.apply (term_named bs (deeper (size es + 2) p) s e) (terms_named 1 bs (deeper 2 p) (past 1 (following e s)) es))
  condition_named bs p s (valof l c) =
      t.holds (t.valof (command_named (labels_in_scope p.procedure (s.number + 1) (labels_of c) bs) (labelled s.number (valued p)) (onward 1 (1 + length (labels_of c)) s) c))
  condition_named bs p s (table l es) = t.holds (t.table (words_named bs es))

  pub lvalue_named : List Binding → Enclosing → Spot → Expression → Lvalue
  lvalue_named bs p s (name l x) = t.word (meant (bound_in bs x))
  lvalue_named bs p s (parens l e) = t.inside (lvalue_named bs p (past 1 s) e)
  lvalue_named bs p s (unary l q.Contents e) = t.contents (term_named bs p (past 1 s) e)
  lvalue_named bs p s (binary l o.Subscript m a b) = t.subscript (term_named bs p s a) (term_named bs (deeper 1 p) (past 1 (following a s)) b)
  lvalue_named bs p s (binary l o.Byte m a b) = t.byte (term_named bs p s a) (term_named bs (deeper 1 p) (past 1 (following a s)) b)
  lvalue_named bs p s _ = t.nowhere

  pub lvalues_named : List Binding → Enclosing → Spot → Expressions → Lvalues
  lvalues_named bs p s none = t.no_lvalues
  lvalues_named bs p s (more e es) = t.onto (lvalue_named bs p s e) (lvalues_named bs p (following e s) es)

  pub command_named : List Binding → Enclosing → Spot → Command → NamedCommand
  command_named bs p s empty = t.empty
  command_named bs p s (assign l xs es) = t.assign (lvalues_named bs (deeper 1 p) s xs) (terms_named 0 bs p (after_each xs s) es)
  command_named bs p s (call l e es) = t.call (term_named bs (deeper (size es + 2) p) s e) (terms_named 1 bs (deeper 2 p) (following e s) es)
  command_named bs p s (goto l x) = t.goto (meant (bound_in bs x.letters))
  command_named bs p s (label l x c) = t.label (meant (bound_in bs x)) (command_named bs p (past 1 s) c)
  command_named bs p s (case_of l e c) = t.case_of (worth (constant_word bs e)) (command_named bs p (after_constant e (past 1 s)) c)
  command_named bs p s (default l c) = t.default (command_named bs p (past 1 s) c)
  command_named bs p s (when l b e c) = t.when b (condition_named bs p s e) (command_named bs p (following e s) c)
  command_named bs p s (test l e a b) =
      t.test (condition_named bs p s e) (command_named bs p (following e s) a) (command_named bs p (after_done a (following e s)) b)
  command_named bs p s (while l b e c) = t.while b (condition_named bs p s e) (command_named bs (looping p) (following e s) c)
  command_named bs p s (for_loop l x a b h c) =
      let u : Spot = onward (symbols_each h) 0 (following b (following a s)) in
      t.for_loop (term_named bs p s a) (term_named bs (deeper 1 p) (following a s) b) (step_named bs h)
      (command_named (labels_in_scope p.procedure (u.number + 1) (labels_of c) (bind x.letters (Variable p.procedure p.depth) bs)) (labelled u.number (looping (deeper 2 p)))
      (numbered (1 + length (labels_of c)) u) c)
  command_named bs p s (switch l e c) = t.switch (term_named bs p s e) (command_named bs (switching (following e s).number p) (numbered 1 (following e s)) c)
  command_named bs p s (result l e) = t.result (term_named bs p (past 1 s) e)
  command_named bs p s (simple l f) = t.simple f
  command_named bs p s (block l no_declarations cs) = t.block t.no_declarations (commands_named bs p s cs)
  command_named bs p s (block l (declare d ds) cs) =
      let u : Spot = after_declared (declare d ds) s in
      t.block (declarations_named bs p s (declare d ds))
      (commands_named (labels_in_scope p.procedure (u.number + 1) (labels_of_each cs) (scope_after bs p s (declare d ds)))
      (labelled u.number (place_after_all bs p s (declare d ds))) (numbered (1 + length (labels_of_each cs)) u) cs)
  command_named bs p s (repeat l c) = t.repeat (command_named bs (looping p) s c)
  command_named bs p s (repeat_while l b c e) = t.repeat_while b (command_named bs (looping p) s c) (condition_named bs p (after_done c s) e)

  pub commands_named : List Binding → Enclosing → Spot → Commands → NamedCommands
  commands_named bs p s no_commands = t.no_named_commands
  commands_named bs p s (also c cs) = t.also (command_named bs p s c) (commands_named bs p (after_done c s) cs)

  pub declarations_named : List Binding → Enclosing → Spot → Declarations → t.Declarations
  declarations_named bs p s no_declarations = t.no_declarations
  declarations_named bs p s (declare d ds) =
      t.declare (declaration_named bs p s d) (declarations_named (scope_after_one bs p s d) (place_after_one bs p s d) (after_one_declared d s) ds)

  pub declaration_named : List Binding → Enclosing → Spot → Declaration → t.Declaration
  declaration_named bs p s (constants l sort.Manifest is) = t.statics []
  declaration_named bs p s (constants l sort.Static is) = t.statics (statics_named bs (numbered 1 s) is)
  declaration_named bs p s (constants l sort.Global is) = t.statics []
  declaration_named bs p s (definitions l ds) = t.lets (definitions_named (procedures_in_scope (s.number + 1) ds bs) p (numbered (1 + procedures_in ds) s) ds)

  pub definitions_named : List Binding → Enclosing → Spot → Definitions → t.Definitions
  definitions_named bs p s no_definitions = t.no_definitions
  definitions_named bs p s (define d ds) = t.define (definition_named bs p s d) (definitions_named bs (place_after_one_defined bs p d) (after_one_defined d s) ds)

  pub definition_named : List Binding → Enclosing → Spot → Definition → t.Definition
  definition_named bs p s (routine l x fs c) =
      t.routine (meant (bound_in bs x)) x (length fs)
      (command_named (labels_in_scope s.number (s.number + 2) (labels_of c) (with_formals s.number 2 fs bs)) (labelled (s.number + 1) (called true s.number (length fs)))
      (onward (1 + length fs) (2 + length (labels_of c)) s) c)
  definition_named bs p s (function l x fs e) =
      t.function (meant (bound_in bs x)) x (length fs) (term_named (with_formals s.number 2 fs bs) (called false s.number (length fs)) (onward (1 + length fs) 1 s) e)
  definition_named bs p s (variables l xs is) = t.variables (starts_named bs p (past (length xs) s) is)

  pub starts_named : List Binding → Enclosing → Spot → Starts → t.Starts
  starts_named bs p s no_starts = t.no_starts
  starts_named bs p s (value e is) = t.value (term_named bs p s e) (starts_named bs (deeper 1 p) (following e s) is)
  starts_named bs p s (vector l e is) = t.vector (worth (constant_word bs e)) (starts_named bs (deeper (words_of_start bs e + 1) p) (after_constant e s) is)

-- THE NAMED TREE OF A SECTION
abbrev pub named_tree : Declarations → t.Declarations
named_tree ds = declarations_named [] outermost beginning ds
