use Rattle.bk_trans.proofs.Terms.{◌≡◌, ℕ, ◌-◌, length, place_of}
use Rattle.bk_trans.proofs.places.extend.Given as goal

abbrev pub invariant-loop-goals : goal.invariant-loop-goals
invariant-loop-goals l = (m : ℕ) → place_of l.goals.items m ≡ place_of l.fn.goals.items m

abbrev pub decreases-loop-goals : goal.decreases-loop-goals
decreases-loop-goals l = l.count - length l.goals.items
