use Rattle.bk_ocode.proofs.Terms.{◌≡◌, ℕ, List, IfErr, sym, subst, Holds, IsUnfit, Partial, Unfit}
use Rattle.bk_ocode.specs.declared.partial.Unfit.TheVariants.{BadNumber}
use Rattle.bk_ocode.proofs.partial.take.Goals as goal

pub returns-in-CaseValue-clause-bad : goal.returns-in-CaseValue-clause-bad
returns-in-CaseValue-clause-bad c =
    subst (λ (b : Partial). IfErr c.with_value.result (λ (unfit : Unfit). unfit ≡ BadNumber → (w : List ℕ) → Holds c.args.word.now w → IsUnfit b w)) (sym c.in-CaseValue.is) c.with_value.ensures.bad
