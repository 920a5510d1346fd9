use Rattle.bk_intcode.proofs.WordLemmas.{nothing-end, ◌≡◌, ◌==◌, List, ℕ, true, false, length, ap, ◌∙◌, sym}
use Rattle.bk_intcode.proofs.meaning.end.Goals as goal

pub returns-else-is_empty-clause-none : goal.returns-else-is_empty-clause-none
returns-else-is_empty-clause-none c = nothing-end c.args.bytes.now (λ is.
    let yes : (length c.args.bytes.now == 0) ≡ true = ap (λ (l : List ℕ). length l == 0) is in
    let no : (length c.args.bytes.now == 0) ≡ false = sym c.is_empty.ensures ∙ c.if-is_empty.false in
    cc)
