use Rattle.std.proofs.Common.{◌==◌, ◌≤◌, ◌+◌, cond}
use Rattle.bk_checker.proofs.Terms.{◌≡◌, program_in, Moves}
use Rattle.bk_base.specs.Devices.{Begins}
use Rattle.bk_check.specs.Progress.{weight}
use Rattle.bk_checker.specs.Checks.{devices}
use Rattle.bk_checker.proofs.run.go.Given as goal

abbrev pub invariant-turns : goal.invariant-turns
invariant-turns g l = record {
  moves : Moves (program_in l.fn.program) l.fn.m l.fn.first l.m l.next
      (devices g.I.ByteIn g.O.ByteOut l.fn.input l.fn.out) (devices g.I.ByteIn g.O.ByteOut l.input l.out);
  passes : Begins (g.O.ByteOut.passed l.fn.out) (g.O.ByteOut.passed l.out);
  unblamed : (g.I.ByteIn.faults l.input ≡ g.I.ByteIn.faults l.fn.input) × (g.O.ByteOut.faults l.out ≡ g.O.ByteOut.faults l.fn.out);
}

abbrev pub invariant-steps : goal.invariant-steps
invariant-steps g l = record {
  moves : Moves (program_in l.fn.program) l.fn.m l.fn.first l.m l.next
      (devices g.I.ByteIn g.O.ByteOut l.fn.input l.fn.out) (devices g.I.ByteIn g.O.ByteOut l.input l.out);
  passes : Begins (g.O.ByteOut.passed l.fn.out) (g.O.ByteOut.passed l.out);
  unblamed : (g.I.ByteIn.faults l.input ≡ g.I.ByteIn.faults l.fn.input) × (g.O.ByteOut.faults l.out ≡ g.O.ByteOut.faults l.fn.out);
  within : l.m.turns ≤ l.left;
}

abbrev pub decreases-turns : goal.decreases-turns
decreases-turns g l = l.m.turns

abbrev pub decreases-steps : goal.decreases-steps
decreases-steps g l = cond (l.m.turns == l.left) (weight l.m.frames.items l.next + 1) 0
