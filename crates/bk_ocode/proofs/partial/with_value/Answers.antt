use Rattle.bk_ocode.proofs.Terms.{◌≡◌, ℤ, true, false, w32, sym, ap, ◌∙◌, to_z-of_z, has_value}
use Rattle.bk_ocode.proofs.SameStmts.{number_same}
use Rattle.bk_ocode.proofs.partial.with_value.Goals as goal

pub returns-in_default-clause-bad : goal.returns-in_default-clause-bad
returns-in_default-clause-bad c = λ is word held z fits free. c.in_default.ensures.none word held z fits

pub returns-then-contains-clause-bad : goal.returns-then-contains-clause-bad
returns-then-contains-clause-bad c = λ is word held z fits free spelt.
    let same : z ≡ c.in-Some.value = number_same z c.in-Some.value fits c.in-Some.ensures.found.0 (spelt ∙ sym (c.in-Some.ensures.found.1 word held)) in
    let has : has_value c.in-Some.value c.args.draft.cases.items ≡ true = sym (c.requires.0.values c.in-Some.value) ∙ sym (rw (to_z-of_z w32 c.in-Some.value c.in-Some.ensures.found.0) at c.contains.ensures) ∙ c.if-contains.true in
    let h : true ≡ false = sym has ∙ ap (λ (v : ℤ). has_value v c.args.draft.cases.items) (sym same) ∙ free in
    cc
