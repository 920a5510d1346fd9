use Rattle.bk_check.proofs.Terms.{◌≡◌, ◌<◌, ◌+◌, length, get_or, drop, Bool, ap, sym, ◌∙◌, arith, rules, command_in, commands_in, declarations_in, block, Block_is, the_label}
use Rattle.bk_check.specs.Places.{nowhere, place_in, place_at, entered, stands_in_one}
use Rattle.bk_check.proofs.Places.{entered_next, entered_nowhere, on_ok}
use Rattle.bk_check.proofs.Seeks.{no_head, a_head}
use Rattle.bk_check.proofs.scopes.+entering.Goals as goal

pub enter-returns-then-is_empty : goal.enter-returns-then-is_empty
enter-returns-then-is_empty t c =
    let e : command_in c.args.command.now ≡ block c.in-Block.at (declarations_in c.in-Block.decls.items) (commands_in c.in-Block.commands.items) =
    ap command_in c.in-Block.is ∙ Block_is c.in-Block.at c.in-Block.decls c.in-Block.commands in
    let none : length c.in-Block.decls.items ≡ 0 = grind arith in
    rw (e, ← c.deref-then-is_empty.ensures.value) (on_ok c.enter_each.result (λ h x. h x
    ∙ ap (λ (b : Bool). entered b (place_in c.args.place) (place_at x c.args.places.now)) (no_head (the_label x) nowhere c.in-Block.at c.in-Block.decls.items (commands_in c.deref-then-is_empty.result.now) none)) c.enter_each.ensures)

pub enter-returns-else-is_empty : goal.enter-returns-else-is_empty
enter-returns-else-is_empty t c =
    let e : command_in c.args.command.now ≡ block c.in-Block.at (declarations_in c.in-Block.decls.items) (commands_in c.in-Block.commands.items) =
    ap command_in c.in-Block.is ∙ Block_is c.in-Block.at c.in-Block.decls c.in-Block.commands in
    let some : 0 < length c.in-Block.decls.items = grind arith in
    λ x. rw e (sym (entered_nowhere (place_in c.args.place) (place_at x c.args.places.now))
    ∙ ap (λ (b : Bool). entered b (place_in c.args.place) (place_at x c.args.places.now)) (a_head (the_label x) nowhere c.in-Block.at c.in-Block.decls.items (commands_in c.in-Block.commands.items) some))

pub enter_each-loop-command-preserved : goal.enter_each-loop-command-preserved
enter_each-loop-command-preserved t c = λ x.
    let cs = c.args.commands.now in
    let i = c.loop-command.command-index in
    let lt : i < length cs = grind arith in
    let is : c.command-item.result ≡ get_or cs i c.command-item.result = search rules in
    ap (entered (stands_in_one x (commands_in (drop (i + 1) cs))) (place_in c.args.place)) (c.in_ok-enter.ensures x)
    ∙ entered_next x cs i c.command-item.result (place_in c.args.place) (place_at x c.loop-command.places) lt is
    ∙ c.loop-command.invariant x
