use Rattle.bk_lex.proofs.Terms.{ℕ, ◌-◌, ◌≡◌, ◌<◌, ◌≤◌, true, get_or}
use Rattle.bk_lex.specs.Runs.{is_in_run}
use Rattle.bk_lex.proofs.spans.after_run.Given as goal

abbrev pub invariant-loop-at : goal.invariant-loop-at
invariant-loop-at l = (l.from ≤ l.at) × (l.at ≤ l.to) × ((k : ℕ) → l.from ≤ k → k < l.at → is_in_run l.run (get_or l.bytes k 0) ≡ true)

abbrev pub decreases-loop-at : goal.decreases-loop-at
decreases-loop-at l = l.to - l.at
