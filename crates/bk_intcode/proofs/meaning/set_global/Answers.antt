use Rattle.bk_intcode.proofs.Parts.{on_none, arith, no_global-place, no_global-number, no_global-label}
use Rattle.bk_intcode.proofs.meaning.set_global.Goals as goal

pub returns-in_err-place-clause-none : goal.returns-in_err-place-clause-none
returns-in_err-place-clause-none c = on_none c.from_residual.result (no_global-place c.args.bytes.now c.in_err-place.ensures.none)

pub returns-in_err-number-clause-none : goal.returns-in_err-number-clause-none
returns-in_err-number-clause-none c = on_none c.from_residual-in_err-number.result
    (no_global-number c.in_ok-place.place c.args.bytes.now c.in_ok-place.ensures.found.1 c.in_ok-place.ensures.found.2
    (λ n small. c.in_err-number.ensures.none n (omega arith) small))

pub returns-in_err-label-clause-none : goal.returns-in_err-label-clause-none
returns-in_err-label-clause-none c = on_none c.from_residual-in_err-label.result
    (no_global-label c.in_ok-place.place c.args.bytes.now c.in_ok-place.ensures.found.1 c.in_ok-place.ensures.found.2 c.in_err-label.ensures.none)
