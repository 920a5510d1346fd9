use Rattle.bk_machine.proofs.Terms.{◌+◌, ◌-◌, Begins, string_rest, Telling, words_in}
use Rattle.bk_machine.proofs.put_output.put_bytes.Given as goal

abbrev pub invariant-loop-i : goal.invariant-loop-i
invariant-loop-i g l =
    Telling (g.O.ByteOut.taken l.initial.out) (g.O.ByteOut.taken l.out) (string_rest l.count (words_in l.store) l.address 1)
    (string_rest (l.count - l.i) (words_in l.store) l.address (l.i + 1))
    × Begins (g.O.ByteOut.passed l.initial.out) (g.O.ByteOut.passed l.out)
