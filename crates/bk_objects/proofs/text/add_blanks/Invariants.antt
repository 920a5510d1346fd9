use Rattle.std.proofs.Common.{◌≡◌, ◌++◌, replicate}
use Rattle.bk_objects.proofs.text.add_blanks.Given as goal

abbrev pub invariant-loop-i : goal.invariant-loop-i
invariant-loop-i l = l.text.items ≡ l.initial.text.items ++ replicate l.i 32
