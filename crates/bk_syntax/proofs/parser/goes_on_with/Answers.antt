use Rattle.bk_syntax.proofs.Terms.{sym, ap, ◌∙◌, take, length, ◌-◌, goes, limit, stack, last_on, none_on}
use Rattle.bk_syntax.proofs.parser.goes_on_with.Goals as goal

pub returns-in-Some : goal.returns-in-Some
returns-in-Some c =
    let x = c.args.frames.now in
    let is = rw c.deref.ensures.value at c.in-Some.ensures.value in
    c.extends.ensures (stack x.decls.items (take (length x.above.items - 1) x.above.items)) ∙ ap (λ s. goes (limit s) c.args.kind) (sym (last_on x.decls.items x.above.items c.in-Some.top.now is))

pub returns-in-None : goal.returns-in-None
returns-in-None c =
    let x = c.args.frames.now in
    let is = rw c.deref.ensures.value at c.in-None.ensures.value in
    c.goes_on.ensures ∙ ap (λ s. goes (limit s) c.args.kind) (sym (none_on x.decls.items x.above.items is))
