use Rattle.bk_trans.proofs.Terms.{◌≡◌, ℕ, ◌≤◌, length, drop, goal_of, place_of}
use Rattle.bk_trans.proofs.places.places_of.Given as goal

abbrev pub invariant-loop-left : goal.invariant-loop-left
invariant-loop-left l = record {
  within : l.left ≤ length l.targets;
  places : (m : ℕ) → place_of l.goals.items m ≡ goal_of (drop l.left l.targets) m;
}

abbrev pub decreases-loop-left : goal.decreases-loop-left
decreases-loop-left l = l.left
