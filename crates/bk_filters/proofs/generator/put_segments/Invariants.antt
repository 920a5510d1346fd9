use Rattle.bk_filters.proofs.GenerateLemmas.{Front, output}
use Rattle.bk_filters.proofs.generator.put_segments.Given as goal

abbrev pub invariant-loop-before : goal.invariant-loop-before
invariant-loop-before g l =
    Front l.before (g.I.ByteIn.left l.initial.input) (g.I.ByteIn.left l.input) (g.I.ByteIn.ended l.input)
    (output g.O.ByteOut l.initial.out) (output g.O.ByteOut l.out)
