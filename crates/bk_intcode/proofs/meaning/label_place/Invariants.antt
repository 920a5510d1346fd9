use Rattle.bk_intcode.proofs.Terms.{◌≡◌, ℕ, ◌<◌, get_or}
use Rattle.bk_intcode.proofs.meaning.label_place.Given as goal

abbrev pub invariant-loop-i : goal.invariant-loop-i
invariant-loop-i l = (k : ℕ) → k < l.i → get_or l.bytes k 0 ≡ 76 → ⊥
