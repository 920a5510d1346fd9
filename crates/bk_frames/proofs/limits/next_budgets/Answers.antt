use Rattle.bk_frames.proofs.Terms.{◌≡◌, ℕ, true, length, take, sym, subst, ap, ◌+◌, ◌-◌, ◌∙◌, List, arith, Budget, declarations_in, Stack, stack, is_tight, AreBudgets}
use Rattle.bk_frames.proofs.Stacks.{stack_take, stack_first, budgets_at}
use Rattle.bk_frames.proofs.limits.next_budgets.Goals as goal

pub returns-then-at-eq0 : goal.returns-then-at-eq0
returns-then-at-eq0 c =
    let x = c.args.frames.now in
    let n = c.len-at.result in
    let is : n ≡ length x.budgets.items = omega arith in
    let st = stack x.decls.items (take n x.above.items) in
    let on = stack_first x.decls.items x.above.items n (omega arith) in
    let P : List Budget → Type 0 = λ z. AreBudgets true st z in
    let Q : Stack → Type 0 = λ z. AreBudgets true z c.in_ok-below.below.items in
    let R : Stack → Type 0 = λ z. AreBudgets true z c.add_budgets_on.new.budgets.items in
    let S : ℕ → Type 0 = λ i. R (stack x.decls.items (take (i + 1) x.above.items)) in
    subst S is (subst R (sym (stack_take x.decls.items x.above.items n c.index-next.result.now (omega arith) c.index-next.ensures))
    (c.in_ok-add_budgets_on.ensures st (ap is_tight (sym on)) (subst P (sym c.as_slice.ensures) (subst Q (sym on) (c.in_ok-below.ensures (declarations_in x.decls.items) x.holds)))))

pub returns : goal.returns
returns c =
    let x = c.args.frames.now in
    let n = c.len-at.result in
    let is : n ≡ length x.budgets.items = omega arith in
    let one : n ≡ n - 1 + 1 = omega arith in
    let st = stack x.decls.items (take n x.above.items) in
    let below = stack x.decls.items (take (n - 1) x.above.items) in
    let on = stack_take x.decls.items x.above.items (n - 1) c.index.result.now (omega arith) c.index.ensures in
    let P : List Budget → Type 0 = λ z. AreBudgets true st z in
    let R : Stack → Type 0 = λ z. AreBudgets true z c.add_budgets_on-2.new.budgets.items in
    let S : ℕ → Type 0 = λ i. R (stack x.decls.items (take (i + 1) x.above.items)) in
    subst S is (subst R (sym (stack_take x.decls.items x.above.items n c.index-next.result.now (omega arith) c.index-next.ensures))
    (c.in_ok-add_budgets_on-2.ensures st (c.is_tight-tight.ensures below ∙ ap is_tight (sym on) ∙ ap (λ i. is_tight (stack x.decls.items (take i x.above.items))) (sym one))
    (subst P (sym c.as_slice-below.ensures) (budgets_at x.decls.items x.above.items x.budgets.items (n - 1) n c.index-2.result.now c.index-2.ensures (omega arith) (omega arith) one x.ample))))
