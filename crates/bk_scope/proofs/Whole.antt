-- THE PASS AND WHAT IS TOLD, for each node and for a section.
use Rattle.bk_scope.proofs.Terms.{◌≡◌, ◌+◌, ◌^◌, ◌<◌, None, List, [], ◌∷◌, refl, sym, ◌∙◌, arith, none-some, Sort as sort, Expression, Expressions, Command, Commands, Declaration, Declarations, Definition, Definitions, Starts, name, number, text, truth, query, parens, unary, binary, choice, apply, valof, table, none, more, empty, assign, call, goto, label, case_of, default, when, test, while, for_loop, switch, result, simple, block, repeat, repeat_while, no_commands, also, constants, definitions, no_declarations, declare, routine, function, variables, no_definitions, define, no_starts, value, vector, Within, nothing, found_in, outermost, beginning, numbers_declared, Fault, first_reported, reported_of, faults, meanings, words}
use Rattle.bk_scope.proofs.Tied.{Tied}
use Rattle.bk_scope.proofs.Counting.{few_numbers}
use Rattle.bk_scope.proofs.Operators.{EsTied, CTied}
use Rattle.bk_scope.proofs.Scopes.{DsTied, CsTied, switch_tied, block_tied}
use Rattle.bk_scope.proofs.Lets.{OneTied, AllTied, routine_one, function_one, none_tied, define_tied}
use Rattle.bk_scope.proofs.Standing.{inside, done_inside, each_done_inside, declared_inside, one_defined_inside, defined_inside}
use Rattle.bk_scope.proofs.Expressions.{ExpressionTied, DestinationsTied, name_tied, number_tied, text_tied, truth_tied, query_tied, parens_tied, unary_tied, infix_tied, choice_tied, call_tied, value_tied, table_tied, no_more_tied, more_tied, no_destinations_tied, destinations_tied}
use Rattle.bk_scope.proofs.Commands.{empty_tied, assign_tied, routine_call_tied, goto_tied, label_tied, case_tied, default_tied, when_tied, test_tied, while_tied, for_tied, result_tied, simple_tied, bare_tied, repeat_tied, repeat_while_tied, no_commands_tied, also_tied}
use Rattle.bk_scope.proofs.Declared.{DeclarationTied, StartsTied, manifest_declared, static_declared, global_declared, let_declared, no_declarations_tied, declare_tied, no_starts_tied, value_start_tied, vector_start_tied, variables_tied}

mutual
  pub expression_tied : (e : Expression) → ExpressionTied e
  expression_tied (name l x) = name_tied l x
  expression_tied (number l n) = number_tied l n
  expression_tied (text l x) = text_tied l x
  expression_tied (truth l b) = truth_tied l b
  expression_tied (query l) = query_tied l
  expression_tied (parens l e) = parens_tied l e (expression_tied e)
  expression_tied (unary l f e) = unary_tied f l e (expression_tied e)
  expression_tied (binary l f m a b) = infix_tied f l m a b (expression_tied a) (expression_tied b)
  expression_tied (choice l m c a b) = choice_tied l m c a b (expression_tied c) (expression_tied a) (expression_tied b)
  expression_tied (apply l m e es) = call_tied l m e es (expression_tied e) (each_tied es)
  expression_tied (valof l c) = value_tied l c (command_tied c)
  expression_tied (table l es) = table_tied l es

  each_tied : (es : Expressions) → EsTied es
  each_tied none = no_more_tied
  each_tied (more e es) = more_tied e es ((expression_tied e).plain) (each_tied es)

  all_set : (es : Expressions) → DestinationsTied es
  all_set none = no_destinations_tied
  all_set (more e es) = destinations_tied e es ((expression_tied e).word) (all_set es)

  pub command_tied : (c : Command) → CTied c
  command_tied empty = empty_tied
  command_tied (assign l xs es) = assign_tied l xs es (all_set xs) (each_tied es)
  command_tied (call l e es) = routine_call_tied l e es ((expression_tied e).plain) (each_tied es)
  command_tied (goto l x) = goto_tied l x
  command_tied (label l x c) = label_tied l x c (command_tied c)
  command_tied (case_of l e c) = case_tied l e c (command_tied c)
  command_tied (default l c) = default_tied l c (command_tied c)
  command_tied (when l b e c) = when_tied l b e c ((expression_tied e).plain) (command_tied c)
  command_tied (test l e c d) = test_tied l e c d ((expression_tied e).plain) (command_tied c) (command_tied d)
  command_tied (while l b e c) = while_tied l b e c ((expression_tied e).plain) (command_tied c)
  command_tied (for_loop l x a b h c) = for_tied l x a b h c ((expression_tied a).plain) ((expression_tied b).plain) (command_tied c)
  command_tied (switch l e c) = switch_tied l e c ((expression_tied e).plain) (inside e) (command_tied c) (done_inside c)
  command_tied (result l e) = result_tied l e ((expression_tied e).plain)
  command_tied (simple l k) = simple_tied l k
  command_tied (block l no_declarations cs) = bare_tied l cs (commands_tied cs)
  command_tied (block l (declare d ds) cs) = block_tied l d ds cs (declare_tied d ds (declaration_tied d) (declarations_tied ds)) (declared_inside (declare d ds)) (commands_tied cs) (each_done_inside cs)
  command_tied (repeat l c) = repeat_tied l c (command_tied c)
  command_tied (repeat_while l b c e) = repeat_while_tied l b c e (command_tied c) ((expression_tied e).plain)

  commands_tied : (cs : Commands) → CsTied cs
  commands_tied no_commands = no_commands_tied
  commands_tied (also c cs) = also_tied c cs (command_tied c) (commands_tied cs)

  pub declarations_tied : (ds : Declarations) → DsTied ds
  declarations_tied no_declarations = no_declarations_tied
  declarations_tied (declare d ds) = declare_tied d ds (declaration_tied d) (declarations_tied ds)

  declaration_tied : (d : Declaration) → DeclarationTied d
  declaration_tied (constants l sort.Manifest is) = manifest_declared l is
  declaration_tied (constants l sort.Static is) = static_declared l is
  declaration_tied (constants l sort.Global is) = global_declared l is
  declaration_tied (definitions l ds) = let_declared l ds (definitions_tied ds)

  definitions_tied : (ds : Definitions) → AllTied ds
  definitions_tied no_definitions = none_tied
  definitions_tied (define d ds) = define_tied d ds (definition_tied d) (one_defined_inside d) (definitions_tied ds) (defined_inside ds)

  definition_tied : (d : Definition) → OneTied d
  definition_tied (routine l x fs c) = routine_one l x fs c (command_tied c) (done_inside c)
  definition_tied (function l x fs e) = function_one l x fs e ((expression_tied e).plain) (inside e)
  definition_tied (variables l xs is) = variables_tied l xs is (starts_tied is)

  starts_tied : (is : Starts) → StartsTied is
  starts_tied no_starts = no_starts_tied
  starts_tied (value e is) = value_start_tied e is ((expression_tied e).plain) (starts_tied is)
  starts_tied (vector l e is) = vector_start_tied l e is (starts_tied is)

-- a section within the limits has numbers enough
pub numbers_fit : (ds : Declarations) → Within ds → 1 + numbers_declared ds < 2 ^ 32
numbers_fit ds h = omega (arith, few_numbers ds h)

-- A SECTION: the pass finds the first of the faults, and what the names mean, and the words of the constants
pub section_tied : (ds : Declarations) → Within ds → Tied (reported_of ds) (numbers_declared ds) nothing (found_in ds)
section_tied ds h = (declarations_tied ds).found [] outermost beginning nothing refl (numbers_fit ds h)

pub first_found : (ds : Declarations) → Within ds → (found_in ds).first ≡ first_reported (faults ds)
first_found ds h = (section_tied ds h).first

-- where the pass finds none, there is none
none_told : (fs : List Fault) → first_reported fs ≡ None → fs ≡ []
none_told [] h = refl
none_told (f ∷ fs) h = absurd (none-some _ (sym h))

pub none_found : (ds : Declarations) → Within ds → (found_in ds).first ≡ None → faults ds ≡ []
none_found ds h e = none_told (faults ds) (sym (first_found ds h) ∙ e)

pub meanings_found : (ds : Declarations) → Within ds → (found_in ds).meanings ≡ meanings ds
meanings_found ds h = (section_tied ds h).meanings

pub words_found : (ds : Declarations) → Within ds → (found_in ds).words ≡ words ds
words_found ds h = (section_tied ds h).words
