use Rattle.bk_kit.proofs.Terms.{◌≡◌, ◌≤◌, None, Begins, HeldBy, Paused, store_of, registers_of, end_of, devices}
use Rattle.bk_kit.proofs.tracing.run_steps.Given as goal

abbrev pub invariant-loop-i : goal.invariant-loop-i
invariant-loop-i g l = record {
  paused : Paused (HeldBy g.I.ByteIn.held) l.i (store_of l.initial.machine) (registers_of l.initial.machine) (store_of l.machine) (registers_of l.machine)
      (devices g.I.ByteIn g.O.ByteOut l.initial.input l.initial.out) (devices g.I.ByteIn g.O.ByteOut l.input l.out);
  passes : Begins (g.O.ByteOut.passed l.initial.out) (g.O.ByteOut.passed l.out);
  fresh : end_of l.machine ≡ None;
  unblamed : g.I.ByteIn.faults l.input ≡ g.I.ByteIn.faults l.initial.input;
  flushed : 1 ≤ l.i → (g.O.ByteOut.passed l.out ≡ g.O.ByteOut.taken l.out) × (g.O.ByteOut.faults l.out ≡ 0);
  reported : Begins (g.E.ByteOut.taken l.initial.err) (g.E.ByteOut.taken l.err) × Begins (g.E.ByteOut.passed l.initial.err) (g.E.ByteOut.passed l.err);
}
