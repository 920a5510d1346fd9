use Rattle.bk_objects.proofs.Terms.{◌≤◌, length, AllWithin, Life}
use Rattle.bk_objects.proofs.store.left.Given as goal

abbrev pub invariant-loop-count : goal.invariant-loop-count
invariant-loop-count l = (l.count ≤ length l.lives) × AllWithin (λ (life : Life). l.from ≤ life.number) l.lives l.count (length l.lives)

abbrev pub decreases-loop-count : goal.decreases-loop-count
decreases-loop-count l = l.count
