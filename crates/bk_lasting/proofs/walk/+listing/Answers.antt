use Rattle.bk_lasting.proofs.Terms.{◌≡◌, ◌++◌, ◌<◌, rules, arith, map, ap, ◌∙◌, vec_len, common_steps, expression, expressions_in, command_in, commands_in, declaration, declarations_in, items_in, definition, definitions_in, starts_in, mention, apply, table, assign, call, constants, definitions, variables, is_zero, is_more, Apply_is, Table_is, Assign_is, Call_is, Block_is, Constants_is, Let_is, Variables_is, labelled, all_declared, of_command, of_commands, of_declarations, env_in}
use Rattle.bk_lasting.proofs.Listed.{block_without_declarations, block_with_declarations}
use Rattle.bk_lasting.proofs.walk.+listing.Goals as goal

pub list_expr-returns-in_ok-words-in-Table : goal.list_expr-returns-in_ok-words-in-Table
list_expr-returns-in_ok-words-in-Table t c =
    let b = c.in-Table in
    let is : expression c.args.expr.now ≡ table b.at (expressions_in b.exprs.items) = ap expression b.is ∙ Table_is b.at b.exprs in
    rw is (first_of (search rules, grind (arith, common_steps)))

pub list_expr-returns-in_ok-next-in-Apply : goal.list_expr-returns-in_ok-next-in-Apply
list_expr-returns-in_ok-next-in-Apply t c =
    let b = c.in-Apply in
    let is : expression c.args.expr.now ≡ apply b.at b.sign (expression b.callee.value) (expressions_in b.arguments.items) = ap expression b.is ∙ Apply_is b.at b.sign b.callee b.arguments in
    rw is (first_of (search rules, grind (arith, common_steps)))

pub list_command-returns-in_ok-next-in-Assign : goal.list_command-returns-in_ok-next-in-Assign
list_command-returns-in_ok-next-in-Assign t c =
    let b = c.in-Assign in
    let is : command_in c.args.command.now ≡ assign b.at (expressions_in b.dests.items) (expressions_in b.values.items) = ap command_in b.is ∙ Assign_is b.at b.dests b.values in
    rw is (first_of (search rules, grind (arith, common_steps)))

pub list_command-returns-in_ok-next-in-Call : goal.list_command-returns-in_ok-next-in-Call
list_command-returns-in_ok-next-in-Call t c =
    let b = c.in-Call in
    let is : command_in c.args.command.now ≡ call b.at (expression b.callee.value) (expressions_in b.arguments.items) = ap command_in b.is ∙ Call_is b.at b.callee b.arguments in
    rw is (first_of (search rules, grind (arith, common_steps)))

pub list_command-returns-then-is_empty : goal.list_command-returns-then-is_empty
list_command-returns-then-is_empty t c =
    let b = c.in-Block in
    let env = env_in c.args.env.now in
    let none : vec_len b.decls ≡ 0 = is_zero _ _ c.is_empty.ensures c.if-is_empty.true in
    let is : of_command env (command_in c.args.command.now) ≡ of_commands env (commands_in b.commands.items) =
    ap (λ x. of_command env (command_in x)) b.is ∙ ap (of_command env) (Block_is b.at b.decls b.commands)
    ∙ block_without_declarations env b.at b.decls.items (commands_in b.commands.items) (omega (arith, none))
    in
    rw is (first_of (search rules, grind (arith, common_steps)))

pub list_command-returns-in_ok-scope-in-Block : goal.list_command-returns-in_ok-scope-in-Block
list_command-returns-in_ok-scope-in-Block t c =
    let b = c.in-Block in
    let env = env_in c.args.env.now in
    let ds = declarations_in b.decls.items in
    let cs = commands_in b.commands.items in
    let some : 0 < vec_len b.decls = is_more _ _ c.is_empty.ensures c.if-is_empty.false in
    let is : of_command env (command_in c.args.command.now) ≡ of_declarations env ds ++ of_commands (labelled cs (all_declared ds env)) cs =
    ap (λ x. of_command env (command_in x)) b.is ∙ ap (of_command env) (Block_is b.at b.decls b.commands)
    ∙ block_with_declarations env b.at b.decls.items cs (omega (arith, some))
    in
    rw is (first_of (search rules, grind (arith, common_steps)))

pub list_decl-returns-in-Constants : goal.list_decl-returns-in-Constants
list_decl-returns-in-Constants t c =
    let b = c.in-Constants in
    let is : declaration c.args.decl.now ≡ constants b.at b.sort (items_in b.items.items) = ap declaration b.is ∙ Constants_is b.at b.sort b.items in
    rw is (first_of (search rules, grind (arith, common_steps)))

pub list_decl-returns-in_ok-scope-in-Let : goal.list_decl-returns-in_ok-scope-in-Let
list_decl-returns-in_ok-scope-in-Let t c =
    let b = c.in-Let in
    let is : declaration c.args.decl.now ≡ definitions b.at (definitions_in b.defs.items) = ap declaration b.is ∙ Let_is b.at b.defs in
    rw is (first_of (search rules, grind (arith, common_steps)))

pub list_def-returns-in-Variables : goal.list_def-returns-in-Variables
list_def-returns-in-Variables t c =
    let b = c.in-Variables in
    let is : definition c.args.def.now ≡ variables b.at (map mention b.names.items) (starts_in b.starts.items) = ap definition b.is ∙ Variables_is b.at b.names b.starts in
    rw is (first_of (search rules, grind (arith, common_steps)))
