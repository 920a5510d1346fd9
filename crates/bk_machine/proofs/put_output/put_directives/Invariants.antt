use Rattle.bk_machine.proofs.Terms.{◌≡◌, ◌+◌, ◌-◌, ◌≤◌, Begins, format_rest, Telling, words_in}
use Rattle.bk_machine.proofs.put_output.put_directives.Given as goal

abbrev pub invariant-loop-i : goal.invariant-loop-i
invariant-loop-i g l =
    Telling (g.O.ByteOut.taken l.initial.out) (g.O.ByteOut.taken l.out) (format_rest l.count (words_in l.store) l.format 1 l.count l.arguments)
    (format_rest (l.count - l.i) (words_in l.store) l.format l.at l.left l.argument)
    × Begins (g.O.ByteOut.passed l.initial.out) (g.O.ByteOut.passed l.out)
    × (l.at + l.left ≡ l.count + 1)
    × (l.i + l.left ≤ l.count)
