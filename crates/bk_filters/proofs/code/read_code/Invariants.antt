use Rattle.bk_filters.proofs.Terms.{◌-◌, ◌^◌, length, map, items_of, intcode}
use Rattle.bk_filters.proofs.CodeLemmas.{Front}
use Rattle.bk_filters.proofs.code.read_code.Given as goal

abbrev pub invariant-loop-segment : goal.invariant-loop-segment
invariant-loop-segment g l = Front intcode (map items_of l.list.items) (g.C.ByteIn.left l.initial.code) (g.C.ByteIn.left l.code) (g.C.ByteIn.ended l.code)

abbrev pub decreases-loop-segment : goal.decreases-loop-segment
decreases-loop-segment g l = 2 ^ 64 - length l.list.items
