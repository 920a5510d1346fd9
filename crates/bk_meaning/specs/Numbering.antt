-- What lasts is at its number: where a run makes the address of a string, a table or a static word, or comes to a procedure,
-- the list of what lasts has it at the number that the environment gives there; and a tree has as many as are counted for it.
use Rattle.std.specs.Prelude.{◌≡◌, ℕ, suc, ◌+◌, Some, unwrap_or, List, [], ◌∷◌, length, slice_get}
use Rattle.bk_tree.specs.declared.tree.Sort.{Sort}
use Rattle.bk_tree.specs.declared.tree.Sort.TheVariants as s
use Rattle.bk_tree.specs.Tree as t
use Rattle.bk_tree.specs.Tree.{Mention, Expression, Expressions, Command, Commands, Declaration, Declarations, Items, Definition, Definitions, Starts}
use Rattle.bk_meaning.specs.Environment.{Environment, past, past_each, past_command, past_definition, constant_in, labelled, within_let, objects_of_declarations}
use Rattle.bk_meaning.specs.Lasting.{command, expression, Lasting, words, text_words, constant_words, declared, all_declared, procedure_here, inside, in_scope, in_for, of_declarations, Program, program_of}

abbrev pub AsManyAsCounted : Type 0
AsManyAsCounted = (env : Environment) (ds : Declarations) → length (of_declarations env ds) ≡ objects_of_declarations ds

abbrev pub IsNumbered : Program → ℕ → Lasting → Type 0
IsNumbered p n x = slice_get p n ≡ Some x

abbrev pub InStatics : Program → ℕ → Environment → Items → Type 0
InStatics p n env t.no_items = Unit {0}
InStatics p n env (t.item l x e is) = IsNumbered p n (words (unwrap_or (constant_in env e) 0 ∷ [])) × InStatics p (suc n) env is

abbrev pub InItems : Program → Environment → Sort → Items → Type 0
InItems p env s.Static is = InStatics p env.next env is
InItems p env _ is = Unit {0}

-- all that lasts of a tree is at its number
abbrev mutual
  pub InExpression : Program → Environment → Expression → Type 0
  InExpression p env (t.text l x) = IsNumbered p env.next (words (text_words x))
  InExpression p env (t.parens l e) = InExpression p env e
  InExpression p env (t.unary l q e) = InExpression p env e
  InExpression p env (t.binary l q m a b) = InExpression p env a × InExpression p (past a env) b
  InExpression p env (t.choice l m c a b) = InExpression p env c × InExpression p (past c env) a × InExpression p (past a (past c env)) b
  InExpression p env (t.apply l m f es) = InExpression p env f × InEach p (past f env) es
  InExpression p env (t.valof l c) = InCommand p (in_scope c env) c
  InExpression p env (t.table l es) = IsNumbered p env.next (words (constant_words env es))
  InExpression p env _ = Unit {0}

  pub InEach : Program → Environment → Expressions → Type 0
  InEach p env t.none = Unit {0}
  InEach p env (t.more e es) = InExpression p env e × InEach p (past e env) es

  pub InCommand : Program → Environment → Command → Type 0
  InCommand p env (t.assign l xs es) = InEach p env xs × InEach p (past_each xs env) es
  InCommand p env (t.call l f es) = InExpression p env f × InEach p (past f env) es
  InCommand p env (t.label l x c) = InCommand p env c
  InCommand p env (t.case_of l e c) = InCommand p env c
  InCommand p env (t.default l c) = InCommand p env c
  InCommand p env (t.when l b e c) = InExpression p env e × InCommand p (past e env) c
  InCommand p env (t.test l e a b) = InExpression p env e × InCommand p (past e env) a × InCommand p (past_command a (past e env)) b
  InCommand p env (t.while l b e c) = InExpression p env e × InCommand p (past e env) c
  InCommand p env (t.for_loop l x a b h c) =
      InExpression p env a × InExpression p (past a env) b × InCommand p (in_for x c (past b (past a env))) c
  InCommand p env (t.switch l e c) = InExpression p env e × InCommand p (past e env) c
  InCommand p env (t.result l e) = InExpression p env e
  InCommand p env (t.block l t.no_declarations cs) = InCommands p env cs
  InCommand p env (t.block l ds cs) = InDeclarations p env ds × InCommands p (labelled cs (all_declared ds env)) cs
  InCommand p env (t.repeat l c) = InCommand p env c
  InCommand p env (t.repeat_while l b c e) = InCommand p env c × InExpression p (past_command c env) e
  InCommand p env _ = Unit {0}

  pub InCommands : Program → Environment → Commands → Type 0
  InCommands p env t.no_commands = Unit {0}
  InCommands p env (t.also c cs) = InCommand p env c × InCommands p (past_command c env) cs

  pub InDeclaration : Program → Environment → Declaration → Type 0
  InDeclaration p env (t.constants l s is) = InItems p env s is
  InDeclaration p env (t.definitions l ds) = InDefinitions p (within_let ds env) ds

  pub InDeclarations : Program → Environment → Declarations → Type 0
  InDeclarations p env t.no_declarations = Unit {0}
  InDeclarations p env (t.declare d ds) = InDeclaration p env d × InDeclarations p (declared d env) ds

  pub InDefinition : Program → Environment → Definition → Type 0
  InDefinition p env (t.routine l x fs c) = IsNumbered p env.next (procedure_here x fs (command c) env) × InCommand p (in_scope c (inside fs env)) c
  InDefinition p env (t.function l x fs e) = IsNumbered p env.next (procedure_here x fs (expression e) env) × InExpression p (inside fs env) e
  InDefinition p env (t.variables l xs is) = InStarts p env is

  pub InDefinitions : Program → Environment → Definitions → Type 0
  InDefinitions p env t.no_definitions = Unit {0}
  InDefinitions p env (t.define d ds) = InDefinition p env d × InDefinitions p (past_definition d env) ds

  pub InStarts : Program → Environment → Starts → Type 0
  InStarts p env t.no_starts = Unit {0}
  InStarts p env (t.value e is) = InExpression p env e × InStarts p (past e env) is
  InStarts p env (t.vector l e is) = InStarts p env is

abbrev pub InSections : Program → ℕ → List Declarations → Type 0
InSections p n [] = Unit {0}
InSections p n (ds ∷ rest) = InDeclarations p (record { names = []; next = n }) ds × InSections p (n + objects_of_declarations ds) rest

abbrev pub WhatLastsIsAtItsNumber : Type 0
WhatLastsIsAtItsNumber = (sections : List Declarations) → InSections (program_of sections) 1 sections
