use Rattle.bk_frames.proofs.Terms.{◌≡◌, ◌-◌, length, stack_of}
use Rattle.bk_frames.proofs.limits.keep_budgets.Given as goal

abbrev pub invariant-loop-frames : goal.invariant-loop-frames
invariant-loop-frames l = stack_of l.frames ≡ stack_of l.fn.frames

abbrev pub decreases-loop-frames : goal.decreases-loop-frames
decreases-loop-frames l = length l.frames.above.items - length l.frames.budgets.items
