-- As many lasting objects as are counted.
use Rattle.bk_meaning.proofs.Terms.{◌≡◌, ℕ, ◌+◌, List, [], ◌∷◌, ◌++◌, length, refl, arith, length-append, unwrap_or, Sort as s, Expression, Expressions, Command, Commands, Declaration, Declarations, Items, Definition, Definitions, Starts, Environment, past, past_each, past_command, past_definition, constant_in, labelled, within_let, objects, objects_of_each, objects_of_command, objects_of_commands, objects_of_declaration, objects_of_declarations, count, objects_of_definition, objects_of_definitions, objects_of_starts, Lasting, words, command, expression, procedure_here, inside, in_scope, in_for, static_words, declared, all_declared, of_expression, of_each, of_command, of_commands, of_declaration, of_declarations, of_definition, of_definitions, of_starts, AsManyAsCounted}
use Rattle.bk_tree.specs.Tree as t

both : (a b : List Lasting) (m n : ℕ) → length a ≡ m → length b ≡ n → length (a ++ b) ≡ m + n
both a b m n x y = omega (arith, length-append a b, x, y)

one : (x : Lasting) (a : List Lasting) (n : ℕ) → length a ≡ n → length (x ∷ a) ≡ 1 + n
one x a n h = omega (arith, h)

three : (a b c : List Lasting) (m n k : ℕ) → length a ≡ m → length b ≡ n → length c ≡ k → length (a ++ b ++ c) ≡ m + n + k
three a b c m n k x y z = both (a ++ b) c (m + n) k (both a b m n x y) z

pub statics_counted : (env : Environment) (is : Items) → length (static_words env is) ≡ count is
statics_counted env t.no_items = refl
statics_counted env (t.item l x e is) = one (words (unwrap_or (constant_in env e) 0 ∷ [])) (static_words env is) (count is) (statics_counted env is)

mutual
  pub expression_counted : (env : Environment) (e : Expression) → length (of_expression env e) ≡ objects e
  expression_counted env (t.parens l e) = expression_counted env e
  expression_counted env (t.unary l q e) = expression_counted env e
  expression_counted env (t.binary l q m a b) = both (of_expression env a) _ _ _ (expression_counted env a) (expression_counted (past a env) b)
  expression_counted env (t.choice l m c a b) = three (of_expression env c) (of_expression (past c env) a) _ _ _ _ (expression_counted env c) (expression_counted (past c env) a) (expression_counted (past a (past c env)) b)
  expression_counted env (t.apply l m f es) = both (of_expression env f) _ _ _ (expression_counted env f) (each_counted (past f env) es)
  expression_counted env (t.valof l c) = command_counted (in_scope c env) c
  expression_counted env _ = refl

  pub each_counted : (env : Environment) (es : Expressions) → length (of_each env es) ≡ objects_of_each es
  each_counted env t.none = refl
  each_counted env (t.more e es) = both (of_expression env e) _ _ _ (expression_counted env e) (each_counted (past e env) es)

  pub command_counted : (env : Environment) (c : Command) → length (of_command env c) ≡ objects_of_command c
  command_counted env (t.assign l xs es) = both (of_each env xs) _ _ _ (each_counted env xs) (each_counted (past_each xs env) es)
  command_counted env (t.call l f es) = both (of_expression env f) _ _ _ (expression_counted env f) (each_counted (past f env) es)
  command_counted env (t.label l x c) = command_counted env c
  command_counted env (t.case_of l e c) = command_counted env c
  command_counted env (t.default l c) = command_counted env c
  command_counted env (t.when l b e c) = both (of_expression env e) _ _ _ (expression_counted env e) (command_counted (past e env) c)
  command_counted env (t.test l e a b) = three (of_expression env e) (of_command (past e env) a) _ _ _ _ (expression_counted env e) (command_counted (past e env) a) (command_counted (past_command a (past e env)) b)
  command_counted env (t.while l b e c) = both (of_expression env e) _ _ _ (expression_counted env e) (command_counted (past e env) c)
  command_counted env (t.for_loop l x a b h c) = three (of_expression env a) (of_expression (past a env) b) _ _ _ _ (expression_counted env a) (expression_counted (past a env) b) (command_counted (in_for x c (past b (past a env))) c)
  command_counted env (t.switch l e c) = both (of_expression env e) _ _ _ (expression_counted env e) (command_counted (past e env) c)
  command_counted env (t.result l e) = expression_counted env e
  command_counted env (t.block l t.no_declarations cs) = omega (arith, commands_counted env cs)
  command_counted env (t.block l (t.declare d ds) cs) = both (of_declarations env (t.declare d ds)) _ _ _ (declarations_counted env (t.declare d ds)) (commands_counted (labelled cs (all_declared (t.declare d ds) env)) cs)
  command_counted env (t.repeat l c) = command_counted env c
  command_counted env (t.repeat_while l b c e) = both (of_command env c) _ _ _ (command_counted env c) (expression_counted (past_command c env) e)
  command_counted env _ = refl

  pub commands_counted : (env : Environment) (cs : Commands) → length (of_commands env cs) ≡ objects_of_commands cs
  commands_counted env t.no_commands = refl
  commands_counted env (t.also c cs) = both (of_command env c) _ _ _ (command_counted env c) (commands_counted (past_command c env) cs)

  pub declaration_counted : (env : Environment) (d : Declaration) → length (of_declaration env d) ≡ objects_of_declaration d
  declaration_counted env (t.constants l s.Static is) = statics_counted env is
  declaration_counted env (t.constants l _ is) = refl
  declaration_counted env (t.definitions l ds) = definitions_counted (within_let ds env) ds

  pub declarations_counted : (env : Environment) (ds : Declarations) → length (of_declarations env ds) ≡ objects_of_declarations ds
  declarations_counted env t.no_declarations = refl
  declarations_counted env (t.declare d ds) = both (of_declaration env d) _ _ _ (declaration_counted env d) (declarations_counted (declared d env) ds)

  pub definition_counted : (env : Environment) (d : Definition) → length (of_definition env d) ≡ objects_of_definition d
  definition_counted env (t.routine l x fs c) = one (procedure_here x fs (command c) env) _ _ (command_counted (in_scope c (inside fs env)) c)
  definition_counted env (t.function l x fs e) = one (procedure_here x fs (expression e) env) _ _ (expression_counted (inside fs env) e)
  definition_counted env (t.variables l xs is) = starts_counted env is

  pub definitions_counted : (env : Environment) (ds : Definitions) → length (of_definitions env ds) ≡ objects_of_definitions ds
  definitions_counted env t.no_definitions = refl
  definitions_counted env (t.define d ds) = both (of_definition env d) _ _ _ (definition_counted env d) (definitions_counted (past_definition d env) ds)

  pub starts_counted : (env : Environment) (is : Starts) → length (of_starts env is) ≡ objects_of_starts is
  starts_counted env t.no_starts = refl
  starts_counted env (t.value e is) = both (of_expression env e) _ _ _ (expression_counted env e) (starts_counted (past e env) is)
  starts_counted env (t.vector l e is) = starts_counted env is

pub as_many_as_counted : AsManyAsCounted
as_many_as_counted env ds = declarations_counted env ds
