use Rattle.bk_frames.proofs.Terms.{◌≡◌, drop, ℕ, kept_size, counted, has_budget}
use Rattle.bk_frames.proofs.budgets.has_budget.Given as goal

abbrev pub invariant-loop-budget : goal.invariant-loop-budget
invariant-loop-budget l = (d n : ℕ) → l.part ≡ kept_size d n → has_budget (drop l.budget-index l.budgets) l.category d (counted l.counts n) ≡ has_budget l.budgets l.category d (counted l.counts n)
