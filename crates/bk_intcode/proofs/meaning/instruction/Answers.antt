use Rattle.bk_intcode.proofs.Parts.{on_none, ◌∷◌, List, ℕ, sym, subst, letter, MeansNothing, nothing-instruction}
use Rattle.bk_intcode.proofs.meaning.instruction.Goals as goal

pub returns-in_err-operand-clause-none : goal.returns-in_err-operand-clause-none
returns-in_err-operand-clause-none c = on_none c.from_residual.result
    (subst (λ (t : List ℕ). MeansNothing (letter c.args.function ∷ t)) (sym c.indirection-indirect.ensures.split)
    (nothing-instruction c.args.function c.indirection-indirect.result.0 c.indirection-indirect.result.1.now c.in_err-operand.ensures.none c.indirection-indirect.ensures.direct))
