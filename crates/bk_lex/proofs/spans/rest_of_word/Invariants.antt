use Rattle.bk_lex.proofs.Terms.{ℕ, ◌-◌, ◌≡◌, ◌<◌, ◌≤◌, true, get_or, slice_range, is_name_byte, code_from}
use Rattle.bk_lex.proofs.spans.rest_of_word.Given as goal

abbrev pub invariant-loop-at : goal.invariant-loop-at
invariant-loop-at l = (l.from ≤ l.at) × (l.at ≤ l.to) × ((k : ℕ) → l.from ≤ k → k < l.at → is_name_byte (get_or l.bytes k 0) ≡ true) × (l.code ≡ code_from l.code-2 (slice_range l.bytes l.from l.at))

abbrev pub decreases-loop-at : goal.decreases-loop-at
decreases-loop-at l = l.to - l.at
