use Rattle.bk_machine.proofs.Terms.{◌≡◌, ◌+◌, ◌-◌, ℕ, Begins, HeldBy, Paused, words_on, devices}
use Rattle.bk_machine.proofs.run.go.Given as goal

abbrev pub invariant-loop-end : goal.invariant-loop-end
invariant-loop-end g l = record {
  done : ℕ;
  count : done + l.left ≡ l.steps;
  words : l.board.words ≡ l.initial.board.words;
  paused : Paused (HeldBy g.I.ByteIn.held) done (words_on l.initial.board) l.initial.board.registers (words_on l.board) l.board.registers
      (devices g.I.ByteIn g.O.ByteOut l.initial.input l.initial.out) (devices g.I.ByteIn g.O.ByteOut l.input l.out);
  passes : Begins (g.O.ByteOut.passed l.initial.out) (g.O.ByteOut.passed l.out);
  unblamed : g.I.ByteIn.faults l.input ≡ g.I.ByteIn.faults l.initial.input;
}

abbrev pub decreases-loop-end : goal.decreases-loop-end
decreases-loop-end g l = l.board.words - l.board.kept.len
