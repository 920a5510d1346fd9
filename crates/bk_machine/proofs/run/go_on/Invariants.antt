use Rattle.bk_machine.proofs.Terms.{◌≡◌, Begins, HeldBy, Paused, padded, devices}
use Rattle.bk_machine.proofs.run.go_on.Given as goal

abbrev pub invariant-loop-i : goal.invariant-loop-i
invariant-loop-i g l = record {
  paused : Paused (HeldBy g.I.ByteIn.held) l.i (padded l.count l.initial.store) l.initial.r (padded l.count l.store) l.r
      (devices g.I.ByteIn g.O.ByteOut l.initial.input l.initial.out) (devices g.I.ByteIn g.O.ByteOut l.input l.out);
  passes : Begins (g.O.ByteOut.passed l.initial.out) (g.O.ByteOut.passed l.out);
  unblamed : g.I.ByteIn.faults l.input ≡ g.I.ByteIn.faults l.initial.input;
}
