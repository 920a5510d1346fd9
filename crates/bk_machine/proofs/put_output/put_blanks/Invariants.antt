use Rattle.bk_machine.proofs.Terms.{replicate, Appends, Begins}
use Rattle.bk_machine.proofs.put_output.put_blanks.Given as goal

abbrev pub invariant-loop-i : goal.invariant-loop-i
invariant-loop-i g l =
    Appends (g.O.ByteOut.taken l.initial.out) (g.O.ByteOut.taken l.out) (replicate l.i 32)
    × Begins (g.O.ByteOut.passed l.initial.out) (g.O.ByteOut.passed l.out)
