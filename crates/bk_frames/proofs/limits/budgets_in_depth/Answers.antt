use Rattle.bk_frames.proofs.Terms.{false, take, sym, subst, ap, ◌∙◌, List, arith, Budget, declarations_in, Stack, stack, is_tight, AreBudgets}
use Rattle.bk_frames.proofs.Stacks.{stack_take, stack_none}
use Rattle.bk_frames.proofs.limits.budgets_in_depth.Goals as goal

pub loop-frame-init : goal.loop-frame-init
loop-frame-init c =
    let x = c.args.frames.now in
    let on = sym (stack_none x.decls.items) in
    let Q : Stack → Type 0 = λ z. AreBudgets false z c.in_ok-budgets.budgets.items in
    record { tight = ap is_tight on; budgets = subst Q on (c.in_ok-budgets.ensures (declarations_in x.decls.items) x.holds) }

pub loop-frame-preserved : goal.loop-frame-preserved
loop-frame-preserved c =
    let x = c.args.frames.now in
    let i = c.loop-frame.frame-index in
    let st = stack x.decls.items (take i x.above.items) in
    let is = rw c.deref-frame-items.ensures.value at c.frame-item.is in
    let on = sym (stack_take x.decls.items x.above.items i c.frame-item.result (omega arith) is) in
    let P : List Budget → Type 0 = λ z. AreBudgets false st z in
    let Q : Stack → Type 0 = λ z. AreBudgets false z c.add_budgets_on.new.budgets.items in
    record {
      tight = c.is_tight-tight.ensures st ∙ ap is_tight on;
      budgets = subst Q on (c.in_ok-add_budgets_on.ensures st c.loop-frame.invariant.tight (subst P (sym c.as_slice.ensures) c.loop-frame.invariant.budgets));
    }
