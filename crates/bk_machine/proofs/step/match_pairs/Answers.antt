use Rattle.bk_machine.proofs.Terms.{ap, ◌≡◌, ℕ, suc, List, Some, slice_get, refl, sym, ◌∙◌, arith, nat_eq, false, word_sum, matched, nat_tests}
use Rattle.bk_machine.proofs.step.match_pairs.Goals as goal

-- one pair that does not match
matched_on : (n m : ℕ) (store : List ℕ) (at a otherwise case to next : ℕ) → n ≡ suc m → slice_get store at ≡ Some case
    → slice_get store (word_sum at 1) ≡ Some to → nat_eq case a ≡ false → next ≡ word_sum at 2
    → matched n store at a otherwise ≡ matched m store next a otherwise
matched_on n m store at a otherwise case to next count found leads other place = rw (count, found, leads, other, place) refl

pub loop-i-preserved : goal.loop-i-preserved
loop-i-preserved c =
    let other : nat_eq c.in-Some.case c.args.a ≡ false = grind (arith, nat_tests) in
    let leads : slice_get c.args.store.now (word_sum c.loop-i.at 1) ≡ Some c.in-Some-word_at.to =
    ap (λ i. slice_get c.args.store.now i) (sym c.sum.ensures) ∙ sym c.in-Some-word_at.ensures in
    c.loop-i.invariant
    ∙ matched_on _ _ _ _ _ _ c.in-Some.case c.in-Some-word_at.to _ (omega arith) (sym c.in-Some.ensures) leads other c.sum-at.ensures
