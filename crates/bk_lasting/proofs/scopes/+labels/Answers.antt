use Rattle.bk_lasting.proofs.Terms.{rules, arith, ◌≡◌, ◌<◌, [], ap, ◌∙◌, vec_len, common_steps, command_in, commands_in, Block_is, is_zero, is_more, labels_of, labels_of_each}
use Rattle.bk_scope.proofs.Lemmas.{labels_of_bare, labels_of_own}
use Rattle.bk_lasting.proofs.scopes.+labels.Goals as goal

pub bind_labels-returns-then-is_empty : goal.bind_labels-returns-then-is_empty
bind_labels-returns-then-is_empty t c =
    let b = c.in-Block in
    let none : vec_len b.decls ≡ 0 = is_zero _ _ c.is_empty.ensures c.if-is_empty.true in
    let bare : labels_of (command_in c.args.command.now) ≡ labels_of_each (commands_in b.commands.items) =
    ap (λ x. labels_of (command_in x)) b.is ∙ ap labels_of (Block_is b.at b.decls b.commands) ∙ labels_of_bare b.at b.decls.items (commands_in b.commands.items) (omega (arith, none))
    in
    rw bare (first_of (search rules, grind (arith, common_steps)))

pub bind_labels-returns-else-is_empty : goal.bind_labels-returns-else-is_empty
bind_labels-returns-else-is_empty t c =
    let b = c.in-Block in
    let some : 0 < vec_len b.decls = is_more _ _ c.is_empty.ensures c.if-is_empty.false in
    let own : labels_of (command_in c.args.command.now) ≡ [] =
    ap (λ x. labels_of (command_in x)) b.is ∙ ap labels_of (Block_is b.at b.decls b.commands) ∙ labels_of_own b.at b.decls.items (commands_in b.commands.items) (omega (arith, some))
    in
    rw own (first_of (search rules, grind (arith, common_steps)))
