use Rattle.std.proofs.Common.{◌≡◌, rules, arith, map, sym, ap, ◌∙◌}
use Rattle.std.proofs.lemmas.Grind.{common_steps}
use Rattle.bk_tree.specs.Tree.{expression, expressions_in, command_in, commands_in, declaration, declarations_in, items_in, definition, definitions_in, starts_in, mention, apply, table, assign, call, label, block, constants, definitions, variables}
use Rattle.bk_tree.proofs.Trees.{Apply_is, Table_is, Assign_is, Call_is, Block_is, Constants_is, Let_is, Variables_is}
use Rattle.bk_tree.proofs.copying.+copy.Goals as goal

pub copy-returns-in_ok-items-in-Apply : goal.copy-returns-in_ok-items-in-Apply
copy-returns-in_ok-items-in-Apply t c =
    let was = c.in-Apply in
    let callee : expression c.in_ok-callee-in-Apply.callee.value ≡ expression was.callee.value = first_of (search rules, grind (arith, common_steps)) in
    let items : expressions_in c.in_ok-items-in-Apply.items.items ≡ expressions_in was.items.items = first_of (search rules, grind (arith, common_steps)) in
    c.apply.ensures ∙ ap (λ x. apply was.at was.sign x (expressions_in c.in_ok-items-in-Apply.items.items)) callee ∙ ap (apply was.at was.sign (expression was.callee.value)) items
    ∙ sym (ap expression was.is ∙ Apply_is was.at was.sign was.callee was.items)

pub copy-returns-in_ok-items-in-Table : goal.copy-returns-in_ok-items-in-Table
copy-returns-in_ok-items-in-Table t c =
    let was = c.in-Table in
    let items : expressions_in c.in_ok-items-in-Table.items.items ≡ expressions_in was.items.items = first_of (search rules, grind (arith, common_steps)) in
    c.table.ensures ∙ ap (table was.at) items ∙ sym (ap expression was.is ∙ Table_is was.at was.items)

pub copy_command-returns-in_ok-values-in-Assign : goal.copy_command-returns-in_ok-values-in-Assign
copy_command-returns-in_ok-values-in-Assign t c =
    let was = c.in-Assign in
    let dests : expressions_in c.in_ok-dests-in-Assign.dests.items ≡ expressions_in was.dests.items = first_of (search rules, grind (arith, common_steps)) in
    let values : expressions_in c.in_ok-values-in-Assign.values.items ≡ expressions_in was.values.items = first_of (search rules, grind (arith, common_steps)) in
    c.assign.ensures ∙ ap (λ x. assign was.at x (expressions_in c.in_ok-values-in-Assign.values.items)) dests ∙ ap (assign was.at (expressions_in was.dests.items)) values
    ∙ sym (ap command_in was.is ∙ Assign_is was.at was.dests was.values)

pub copy_command-returns-in_ok-items-in-Call : goal.copy_command-returns-in_ok-items-in-Call
copy_command-returns-in_ok-items-in-Call t c =
    let was = c.in-Call in
    let callee : expression c.in_ok-callee-in-Call.callee.value ≡ expression was.callee.value = first_of (search rules, grind (arith, common_steps)) in
    let items : expressions_in c.in_ok-items-in-Call.items.items ≡ expressions_in was.items.items = first_of (search rules, grind (arith, common_steps)) in
    c.call.ensures ∙ ap (λ x. call was.at x (expressions_in c.in_ok-items-in-Call.items.items)) callee ∙ ap (call was.at (expression was.callee.value)) items
    ∙ sym (ap command_in was.is ∙ Call_is was.at was.callee was.items)

pub copy_command-returns-in_ok-body-in-Label : goal.copy_command-returns-in_ok-body-in-Label
copy_command-returns-in_ok-body-in-Label t c =
    let was = c.in-Label in
    let letters : c.in_ok-letters-in-Label.letters.items ≡ was.letters.items = first_of (search rules, grind (arith, common_steps)) in
    let body : command_in c.in_ok-body-in-Label.body.value ≡ command_in was.body.value = first_of (search rules, grind (arith, common_steps)) in
    ap (λ x. label was.at x (command_in c.in_ok-body-in-Label.body.value)) letters ∙ ap (label was.at was.letters.items) body ∙ sym (ap command_in was.is)

pub copy_command-returns-in_ok-commands-in-Block : goal.copy_command-returns-in_ok-commands-in-Block
copy_command-returns-in_ok-commands-in-Block t c =
    let was = c.in-Block in
    let decls : declarations_in c.in_ok-decls-in-Block.decls.items ≡ declarations_in was.decls.items = first_of (search rules, grind (arith, common_steps)) in
    let commands : commands_in c.in_ok-commands-in-Block.commands.items ≡ commands_in was.commands.items = first_of (search rules, grind (arith, common_steps)) in
    c.block.ensures ∙ ap (λ x. block was.at x (commands_in c.in_ok-commands-in-Block.commands.items)) decls ∙ ap (block was.at (declarations_in was.decls.items)) commands
    ∙ sym (ap command_in was.is ∙ Block_is was.at was.decls was.commands)

pub copy_declaration-returns-in_ok-items-in-Constants : goal.copy_declaration-returns-in_ok-items-in-Constants
copy_declaration-returns-in_ok-items-in-Constants t c =
    let was = c.in-Constants in
    let items : items_in c.in_ok-items-in-Constants.items.items ≡ items_in was.items.items = first_of (search rules, grind (arith, common_steps)) in
    c.constants.ensures ∙ ap (constants was.at was.sort) items ∙ sym (ap declaration was.is ∙ Constants_is was.at was.sort was.items)

pub copy_declaration-returns-in_ok-defs-in-Let : goal.copy_declaration-returns-in_ok-defs-in-Let
copy_declaration-returns-in_ok-defs-in-Let t c =
    let was = c.in-Let in
    let defs : definitions_in c.in_ok-defs-in-Let.defs.items ≡ definitions_in was.defs.items = first_of (search rules, grind (arith, common_steps)) in
    c.let_of.ensures ∙ ap (definitions was.at) defs ∙ sym (ap declaration was.is ∙ Let_is was.at was.defs)

pub copy_definition-returns-in_ok-inits-in-Variables : goal.copy_definition-returns-in_ok-inits-in-Variables
copy_definition-returns-in_ok-inits-in-Variables t c =
    let was = c.in-Variables in
    let names : map mention c.in_ok-names-in-Variables.names.items ≡ map mention was.names.items = first_of (search rules, grind (arith, common_steps)) in
    let inits : starts_in c.in_ok-inits-in-Variables.inits.items ≡ starts_in was.inits.items = first_of (search rules, grind (arith, common_steps)) in
    c.variables.ensures ∙ ap (λ x. variables was.at x (starts_in c.in_ok-inits-in-Variables.inits.items)) names ∙ ap (variables was.at (map mention was.names.items)) inits
    ∙ sym (ap definition was.is ∙ Variables_is was.at was.names was.inits)
