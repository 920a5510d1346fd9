use Rattle.bk_lasting.proofs.Terms.{◌≡◌, rules, arith, map, ap, ◌∙◌, common_steps, expression, expressions_in, command_in, commands_in, declaration, declarations_in, items_in, definition, definitions_in, starts_in, mention, apply, assign, call, block, constants, definitions, variables, Apply_is, Assign_is, Call_is, Block_is, Constants_is, Let_is, Variables_is}
use Rattle.bk_lasting.proofs.counting.+count.Goals as goal

pub count-returns-in_ok-count_each-in-Apply : goal.count-returns-in_ok-count_each-in-Apply
count-returns-in_ok-count_each-in-Apply t c =
    let b = c.in-Apply in
    let is : expression c.args.expr.now ≡ apply b.at b.sign (expression b.callee.value) (expressions_in b.arguments.items) = ap expression b.is ∙ Apply_is b.at b.sign b.callee b.arguments in
    rw is (first_of (search rules, grind (arith, common_steps)))

pub count_command-returns-in_ok-count_each-in-Assign-2 : goal.count_command-returns-in_ok-count_each-in-Assign-2
count_command-returns-in_ok-count_each-in-Assign-2 t c =
    let b = c.in-Assign in
    let is : command_in c.args.command.now ≡ assign b.at (expressions_in b.dests.items) (expressions_in b.values.items) = ap command_in b.is ∙ Assign_is b.at b.dests b.values in
    rw is (first_of (search rules, grind (arith, common_steps)))

pub count_command-returns-in_ok-count_each-in-Call : goal.count_command-returns-in_ok-count_each-in-Call
count_command-returns-in_ok-count_each-in-Call t c =
    let b = c.in-Call in
    let is : command_in c.args.command.now ≡ call b.at (expression b.callee.value) (expressions_in b.arguments.items) = ap command_in b.is ∙ Call_is b.at b.callee b.arguments in
    rw is (first_of (search rules, grind (arith, common_steps)))

pub count_command-returns-in_ok-count_commands-in-Block : goal.count_command-returns-in_ok-count_commands-in-Block
count_command-returns-in_ok-count_commands-in-Block t c =
    let b = c.in-Block in
    let is : command_in c.args.command.now ≡ block b.at (declarations_in b.decls.items) (commands_in b.commands.items) = ap command_in b.is ∙ Block_is b.at b.decls b.commands in
    rw is (first_of (search rules, grind (arith, common_steps)))

pub count_decl-returns-in-Constants : goal.count_decl-returns-in-Constants
count_decl-returns-in-Constants t c =
    let b = c.in-Constants in
    let is : declaration c.args.decl.now ≡ constants b.at b.sort (items_in b.items.items) = ap declaration b.is ∙ Constants_is b.at b.sort b.items in
    rw is (first_of (search rules, grind (arith, common_steps)))

pub count_decl-returns-in-Let : goal.count_decl-returns-in-Let
count_decl-returns-in-Let t c =
    let b = c.in-Let in
    let is : declaration c.args.decl.now ≡ definitions b.at (definitions_in b.defs.items) = ap declaration b.is ∙ Let_is b.at b.defs in
    rw is (first_of (search rules, grind (arith, common_steps)))

pub count_def-returns-in-Variables : goal.count_def-returns-in-Variables
count_def-returns-in-Variables t c =
    let b = c.in-Variables in
    let is : definition c.args.def.now ≡ variables b.at (map mention b.names.items) (starts_in b.starts.items) = ap definition b.is ∙ Variables_is b.at b.names b.starts in
    rw is (first_of (search rules, grind (arith, common_steps)))
