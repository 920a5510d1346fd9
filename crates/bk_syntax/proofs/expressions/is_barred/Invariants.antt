use Rattle.bk_syntax.proofs.Terms.{◌≡◌, ◌≤◌, take, vec_len, bars, stack}
use Rattle.bk_syntax.proofs.expressions.is_barred.Given as goal

abbrev pub invariant-loop-i : goal.invariant-loop-i
invariant-loop-i l = record { in_range : l.i ≤ vec_len l.frames.above; same : bars (stack l.frames.decls.items (take l.i l.frames.above.items)) ≡ bars (stack l.frames.decls.items l.frames.above.items) }

abbrev pub decreases-loop-i : goal.decreases-loop-i
decreases-loop-i l = l.i
