use Rattle.bk_intcode.proofs.Parts.{if_err_map, ◌≡◌, ◌∙◌, ◌∷◌, sym, subst, ap, List, ℕ, Some, IntcodeKind, Holds, WordFault, begins_item}
use Rattle.bk_intcode.proofs.ItemLengths.{long_fault}
use Rattle.bk_intcode.proofs.words.held_meaning.Goals as goal

pub returns-in-Some-clause-fault : goal.returns-in-Some-clause-fault
returns-in-Some-clause-fault c =
    if_err_map c.meaning_of.result (WordFault c.in-Some.word.now)
    (λ (kind : IntcodeKind). (first : ℕ) (rest : List ℕ) → Holds c.args.held.now (first ∷ rest) → WordFault (first ∷ rest) kind)
    (λ kind fault first rest h. subst (λ (w : List ℕ). WordFault w kind) (c.in-Some.ensures.short (first ∷ rest) h) fault) c.meaning_of.ensures.fault

pub returns-in-Some-first-clause-fault : goal.returns-in-Some-first-clause-fault
returns-in-Some-first-clause-fault c = λ first rest h.
    let reported : Some first ≡ Some c.in-Some-first.first = sym (c.first.ensures first rest h) ∙ c.in-Some-first.is in
    let same : first ≡ c.in-Some-first.first = cc in
    long_fault (first ∷ rest) (c.in_default.ensures.long (first ∷ rest) h) (ap begins_item same ∙ sym c.begins.ensures ∙ c.if-begins.true)
