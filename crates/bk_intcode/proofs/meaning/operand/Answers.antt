use Rattle.bk_intcode.proofs.Parts.{on_none, ◌≡◌, ◌≢◌, ◌∙◌, ◌∷◌, ap, sym, subst, List, ℕ, Operand, operand_text, IsOperand}
use Rattle.bk_intcode.proofs.OperandLemmas.{no_operand-empty, no_operand-local, no_operand-global, no_operand-label}
use Rattle.bk_intcode.proofs.meaning.operand.Goals as goal

NoOperand : List ℕ → Type 0
NoOperand bytes = (o : Operand) → IsOperand o → operand_text o ≢ bytes

pub returns-in_err-first-clause-none : goal.returns-in_err-first-clause-none
unfolding NoOperand
returns-in_err-first-clause-none c = on_none c.from_residual.result (subst NoOperand (sym c.in_err-first.ensures.none) no_operand-empty)

pub returns-in_err-number-in-80-clause-none : goal.returns-in_err-number-in-80-clause-none
unfolding NoOperand
returns-in_err-number-in-80-clause-none c =
    let is : c.args.bytes.now ≡ 80 ∷ c.in_ok-first.rest.now = c.in_ok-first.ensures.some ∙ ap (λ (b : ℕ). b ∷ c.in_ok-first.rest.now) c.in-80.is in
    on_none c.from_residual-in_err-number-in-80.result (subst NoOperand (sym is) (no_operand-local c.in_ok-first.rest.now c.in_err-number-in-80.ensures.none))

pub returns-in_err-number-in-71-clause-none : goal.returns-in_err-number-in-71-clause-none
unfolding NoOperand
returns-in_err-number-in-71-clause-none c =
    let is : c.args.bytes.now ≡ 71 ∷ c.in_ok-first.rest.now = c.in_ok-first.ensures.some ∙ ap (λ (b : ℕ). b ∷ c.in_ok-first.rest.now) c.in-71.is in
    on_none c.from_residual-in_err-number-in-71.result (subst NoOperand (sym is) (no_operand-global c.in_ok-first.rest.now c.in_err-number-in-71.ensures.none))

pub returns-in_err-label-in-76-clause-none : goal.returns-in_err-label-in-76-clause-none
unfolding NoOperand
returns-in_err-label-in-76-clause-none c =
    let is : c.args.bytes.now ≡ 76 ∷ c.in_ok-first.rest.now = c.in_ok-first.ensures.some ∙ ap (λ (b : ℕ). b ∷ c.in_ok-first.rest.now) c.in-76.is in
    on_none c.from_residual-in_err-label-in-76.result (subst NoOperand (sym is) (no_operand-label c.in_ok-first.rest.now c.in_err-label-in-76.ensures.none))
