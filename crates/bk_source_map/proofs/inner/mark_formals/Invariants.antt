use Rattle.std.proofs.Common.{◌≡◌}
use Rattle.bk_source_map.proofs.inner.mark_formals.Given as goal

abbrev pub invariant-loop-formal : goal.invariant-loop-formal
invariant-loop-formal l = l.out.places.items ≡ l.fn.out.places.items
