use Rattle.bk_syntax.proofs.Terms.{◌≡◌, subst, sym, take, length, ◌-◌, Stack, take_due, take_command, stack, last_on}
use Rattle.bk_syntax.proofs.declarations.begins_command_of_block.Goals as goal

pub returns-in-Some : goal.returns-in-Some
returns-in-Some c is-true l text =
    let x = c.args.frames.now in
    let is = rw c.deref.ensures.value at c.in-Some.ensures.value in
    let P : Stack → Type 0 = λ st. take_due st l text c.args.kind ≡ take_command st l text c.args.kind in
    subst P (sym (last_on x.decls.items x.above.items c.in-Some.top.now is))
    (c.begins_command.ensures is-true (stack x.decls.items (take (length x.above.items - 1) x.above.items)) l text)
