use Rattle.bk_frames.proofs.Terms.{true, sym, subst, List, arith, Budget, declarations_in, Stack, AreBudgets, stack_of}
use Rattle.bk_frames.proofs.Stacks.{budgets_last, stack_of_none}
use Rattle.bk_frames.proofs.limits.has_budgets.Goals as goal

pub returns-then-count-eq0-clause-bounded : goal.returns-then-count-eq0-clause-bounded
returns-then-count-eq0-clause-bounded c =
    let x = c.keep_budgets.new.frames in
    let on = stack_of_none x.decls.items x.above.items c.len-count.result (omega arith) c.if-count-eq0.true in
    let P : List Budget → Type 0 = λ z. AreBudgets true (stack_of x) z in
    let Q : Stack → Type 0 = λ z. AreBudgets true z c.in_ok-budgets.budgets.items in
    c.has_budget_for.ensures (stack_of x) (subst P (sym c.as_slice.ensures) (subst Q (sym on) (c.in_ok-budgets.ensures (declarations_in x.decls.items) x.holds)))

pub returns-clause-bounded : goal.returns-clause-bounded
returns-clause-bounded c =
    let x = c.keep_budgets.new.frames in
    let few = c.in_ok-keep_budgets.ensures.kept in
    let P : List Budget → Type 0 = λ z. AreBudgets true (stack_of x) z in
    c.has_budget_for-2.ensures (stack_of x) (subst P (sym c.as_slice-2.ensures) (budgets_last x.decls.items x.above.items x.budgets.items c.len-count.result c.index.result.now (omega arith) c.index.ensures (omega arith) few x.ample))
