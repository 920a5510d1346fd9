use Rattle.bk_frames.proofs.Terms.{subst, List, Budget, unfinished_on, completions, by_completions, AreAdded}
use Rattle.bk_frames.proofs.Below.{budgets_above}
use Rattle.bk_frames.proofs.limits.add_budgets_on.Goals as goal

pub returns : goal.returns
returns c st t h =
    let b = c.args.counts in
    let x = c.args.unfinished.now in
    let below = c.args.below.now in
    let P : List Budget → Type 0 = λ z. AreAdded (by_completions b (completions (unfinished_on x st)) below) z c.add_completions.new.budgets.items in
    budgets_above b x st below c.add_completions.new.budgets.items h (subst P c.requires.none (c.in_ok-add_completions.ensures (completions (unfinished_on x st)) (c.completions-completions.ensures st t)))
