use Rattle.bk_scope.proofs.Terms.{rules, arith, ◌≡◌, ◌<◌, [], ap, sym, ◌∙◌, vec_len, common_steps, command_in, commands_in, Block_is, is_zero, is_more, with_labels, labels_of, labels_of_each}
use Rattle.bk_scope.proofs.Entered.{labels_of_bare, labels_of_own}
use Rattle.bk_scope.proofs.entering.+labels.Goals as goal

pub enter_labels-returns-then-is_empty : goal.enter_labels-returns-then-is_empty
enter_labels-returns-then-is_empty t c =
    let b = c.in-Block in
    let none : vec_len b.decls ≡ 0 = is_zero _ _ c.is_empty.ensures c.if-is_empty.true in
    let bare : labels_of (command_in c.args.command.now) ≡ labels_of_each (commands_in b.commands.items) =
    ap (λ x. labels_of (command_in x)) b.is ∙ ap labels_of (Block_is b.at b.decls b.commands) ∙ labels_of_bare b.at b.decls.items (commands_in b.commands.items) (omega (arith, none))
    in
    rw bare (first_of (search rules, grind (arith, common_steps)))

pub enter_labels-returns-else-is_empty : goal.enter_labels-returns-else-is_empty
enter_labels-returns-else-is_empty t c =
    let b = c.in-Block in
    let some : 0 < vec_len b.decls = is_more _ _ c.is_empty.ensures c.if-is_empty.false in
    let own : labels_of (command_in c.args.command.now) ≡ [] =
    ap (λ x. labels_of (command_in x)) b.is ∙ ap labels_of (Block_is b.at b.decls b.commands) ∙ labels_of_own b.at b.decls.items (commands_in b.commands.items) (omega (arith, some))
    in
    sym (ap (λ xs. with_labels c.args.procedure xs c.args.walk.now) own)
