use Rattle.std.specs.Prelude.{◌≤◌, length}
use Rattle.bk_objects.proofs.store.near.Given as goal

abbrev pub invariant-trying : goal.invariant-trying
invariant-trying l = l.i ≤ length l.lives

abbrev pub decreases-trying : goal.decreases-trying
decreases-trying l = l.i
