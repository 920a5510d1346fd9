use Rattle.bk_lasting.proofs.Terms.{◌≡◌, ◌*◌, ◌++◌, drop, packed}
use Rattle.bk_lasting.proofs.text.packed.Given as goal

abbrev pub invariant-loop-i : goal.invariant-loop-i
invariant-loop-i l = l.words.items ++ packed (drop (4 * l.i) l.bytes) ≡ packed l.bytes
