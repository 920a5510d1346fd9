use Rattle.std.proofs.Common.{rules, arith, ◌≡◌, map, ap, ◌∙◌}
use Rattle.std.proofs.lemmas.Grind.{common_steps}
use Rattle.bk_tree.specs.Tree.{expression, expressions_in, command_in, commands_in, declaration, declarations_in, items_in, definition, definitions_in, starts_in, mention, apply, table, assign, call, block, constants, definitions, variables}
use Rattle.bk_tree.proofs.Lemmas.{Constants_is, Let_is, Variables_is, Apply_is, Table_is, Assign_is, Call_is, Block_is}
use Rattle.bk_source_map.proofs.inner.+inner.Goals as goal

pub inside-returns-in_ok-inside-in-Apply : goal.inside-returns-in_ok-inside-in-Apply
inside-returns-in_ok-inside-in-Apply t c =
    let b = c.in-Apply in
    let is : expression c.args.expr.now ≡ apply b.at b.sign (expression b.callee.value) (expressions_in b.arguments.items) = ap expression b.is ∙ Apply_is b.at b.sign b.callee b.arguments in
    rw is (first_of (search rules, grind (arith, common_steps)))

pub inside-returns-in-Table : goal.inside-returns-in-Table
inside-returns-in-Table t c =
    let b = c.in-Table in
    let is : expression c.args.expr.now ≡ table b.at (expressions_in b.items.items) = ap expression b.is ∙ Table_is b.at b.items in
    rw is (first_of (search rules, grind (arith, common_steps)))

pub inside_act-returns-in_ok-inside_onto-in-Assign : goal.inside_act-returns-in_ok-inside_onto-in-Assign
inside_act-returns-in_ok-inside_onto-in-Assign t c =
    let b = c.in-Assign in
    let is : command_in c.args.command.now ≡ assign b.at (expressions_in b.destinations.items) (expressions_in b.values.items) = ap command_in b.is ∙ Assign_is b.at b.destinations b.values in
    rw is (first_of (search rules, grind (arith, common_steps)))

pub inside_act-returns-in_ok-inside-in-Call : goal.inside_act-returns-in_ok-inside-in-Call
inside_act-returns-in_ok-inside-in-Call t c =
    let b = c.in-Call in
    let is : command_in c.args.command.now ≡ call b.at (expression b.callee.value) (expressions_in b.arguments.items) = ap command_in b.is ∙ Call_is b.at b.callee b.arguments in
    rw is (first_of (search rules, grind (arith, common_steps)))

pub inside_act-returns-in_ok-inside_decls-in-Block : goal.inside_act-returns-in_ok-inside_decls-in-Block
inside_act-returns-in_ok-inside_decls-in-Block t c =
    let b = c.in-Block in
    let is : command_in c.args.command.now ≡ block b.at (declarations_in b.decls.items) (commands_in b.commands.items) = ap command_in b.is ∙ Block_is b.at b.decls b.commands in
    rw is (first_of (search rules, grind (arith, common_steps)))

pub inside_decl-returns-in-Constants : goal.inside_decl-returns-in-Constants
inside_decl-returns-in-Constants t c =
    let b = c.in-Constants in
    let is : declaration c.args.decl.now ≡ constants b.at b.sort (items_in b.items.items) = ap declaration b.is ∙ Constants_is b.at b.sort b.items in
    rw is (first_of (search rules, grind (arith, common_steps)))

pub inside_decl-returns-in-Let : goal.inside_decl-returns-in-Let
inside_decl-returns-in-Let t c =
    let b = c.in-Let in
    let is : declaration c.args.decl.now ≡ definitions b.at (definitions_in b.defs.items) = ap declaration b.is ∙ Let_is b.at b.defs in
    rw is (first_of (search rules, grind (arith, common_steps)))

pub inside_def-returns-in-Variables : goal.inside_def-returns-in-Variables
inside_def-returns-in-Variables t c =
    let b = c.in-Variables in
    let is : definition c.args.def.now ≡ variables b.at (map mention b.names.items) (starts_in b.starts.items) = ap definition b.is ∙ Variables_is b.at b.names b.starts in
    rw is (first_of (search rules, grind (arith, common_steps)))
