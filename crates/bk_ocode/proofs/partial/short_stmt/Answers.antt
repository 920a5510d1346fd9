use Rattle.bk_ocode.proofs.Terms.{ℕ, List, IfNone, sym, subst, Holds, NoArgument, Keyword}
use Rattle.bk_ocode.proofs.partial.short_stmt.Goals as goal

pub returns-in_err-number-in-Number-clause-none : goal.returns-in_err-number-in-Number-clause-none
returns-in_err-number-in-Number-clause-none c =
    subst (λ r. IfNone r ((w : List ℕ) → Holds c.args.word.now w → NoArgument c.args.keyword w)) (sym c.from_residual.ensures)
    (subst (λ (k : Keyword). (w : List ℕ) → Holds c.args.word.now w → NoArgument k w) (sym c.in-Number.is) c.in_err-number-in-Number.ensures.none)

pub returns-in_err-number-in-DataNumber-clause-none : goal.returns-in_err-number-in-DataNumber-clause-none
returns-in_err-number-in-DataNumber-clause-none c =
    subst (λ r. IfNone r ((w : List ℕ) → Holds c.args.word.now w → NoArgument c.args.keyword w)) (sym c.from_residual-in_err-number-in-DataNumber.ensures)
    (subst (λ (k : Keyword). (w : List ℕ) → Holds c.args.word.now w → NoArgument k w) (sym c.in-DataNumber.is) c.in_err-number-in-DataNumber.ensures.none)
