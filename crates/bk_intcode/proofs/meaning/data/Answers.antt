use Rattle.bk_intcode.proofs.Parts.{on_none, sym, pos, spelling, nothing-data, no_data-label}
use Rattle.bk_intcode.proofs.meaning.data.Goals as goal

pub returns-in_err-label-in-Some-clause-none : goal.returns-in_err-label-in-Some-clause-none
returns-in_err-label-in-Some-clause-none c = on_none c.from_residual.result
    (no_data-label c.args.bytes.now c.in-Some.rest.now c.in-Some.ensures.some c.in_err-label-in-Some.ensures.none)

pub returns-in_err-number-in-None-clause-none : goal.returns-in_err-number-in-None-clause-none
returns-in_err-number-in-None-clause-none c = on_none c.from_residual-in_err-number-in-None.result
    (nothing-data c.args.bytes.now c.in_err-number-in-None.ensures.none (λ l label is. c.in-None.ensures.none (spelling (pos l)) (sym is)))
