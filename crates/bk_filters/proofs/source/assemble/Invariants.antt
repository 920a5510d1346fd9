use Rattle.bk_filters.proofs.SourceLemmas.{Gathered, ◌-◌, ◌^◌, map, items_of}
use Rattle.bk_filters.proofs.source.assemble.Given as goal

abbrev pub invariant-loop-segments : goal.invariant-loop-segments
invariant-loop-segments g l =
    Gathered (g.C.ByteIn.left l.initial.source) (g.C.ByteIn.left l.source) l.taken l.line (map items_of l.segments.items) (g.C.ByteIn.faults l.source)

abbrev pub decreases-loop-segments : goal.decreases-loop-segments
decreases-loop-segments g l = 2 ^ 64 - l.taken
