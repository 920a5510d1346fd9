use Rattle.bk_ocode.proofs.Terms.{◌≡◌, ◌<◌, ◌++◌, ◌∷◌, [], ℕ, List, Option, Some, IfErr, length, sym, subst, Holds, part_words, IsUnfit, BeginNone, Partial, Unfit}
use Rattle.std.proofs.lemmas.Result.{IfErr-weaker}
use Rattle.bk_ocode.specs.declared.partial.Unfit.TheVariants.{BadNumber}
use Rattle.bk_ocode.proofs.FaultLemmas.{partial_some}
use Rattle.bk_ocode.proofs.NextWords.{unfit_none}
use Rattle.bk_ocode.proofs.reading.step_of.Goals as goal

pub returns-in-Some-clause-number : goal.returns-in-Some-clause-number
returns-in-Some-clause-number c =
    let b = c.in-Some.begun in
    let begun = rw c.in-Some.is at c.requires in
    let so : Option Partial → Unfit → Type 0 = λ part unfit.
    unfit ≡ BadNumber → (0 < length (part_words part)) × ((w : List ℕ) → Holds c.args.word.now w → BeginNone (part_words part ++ w ∷ [])) in
    subst (λ (part : Option Partial). IfErr c.take.result (so part)) (sym c.in-Some.is)
    (IfErr-weaker c.take.result (λ (unfit : Unfit). unfit ≡ BadNumber → (w : List ℕ) → Holds c.args.word.now w → IsUnfit b w) (so (Some b))
    (λ e bad reported. (partial_some b, λ w held. unfit_none b w begun (bad reported w held))) c.take.ensures.bad)
