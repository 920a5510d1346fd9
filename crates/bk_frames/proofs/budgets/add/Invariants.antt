use Rattle.std.proofs.Common.{◌≤◌, ◌-◌}
use Rattle.smallvec.specs.SmallVec.{small_vec_len}
use Rattle.bk_frames.proofs.Ample.{AreBeside}
use Rattle.bk_frames.proofs.budgets.add.Given as goal

abbrev pub invariant-loop-i : goal.invariant-loop-i
invariant-loop-i l = record { in_range : l.i ≤ small_vec_len l.budgets; beside : AreBeside l.budget l.initial.budgets.items l.budgets.items }

abbrev pub decreases-loop-i : goal.decreases-loop-i
decreases-loop-i l = small_vec_len l.budgets - l.i
