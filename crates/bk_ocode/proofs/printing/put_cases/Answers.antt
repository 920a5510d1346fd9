use Rattle.bk_ocode.proofs.Parts.{on_err, refl, spaced, case_words, Case, case_rows, AppendsPart-row}
use Rattle.bk_ocode.proofs.printing.put_cases.Goals as goal

pub returns-in_err-put_case-clause-part : goal.returns-in_err-put_case-clause-part
returns-in_err-put_case-clause-part g c = on_err c.from_residual.result
    (AppendsPart-row Case (λ xs. spaced (case_words xs)) case_rows _ _ _ c.args.cases.now c.loop-case.case-index _ _ c.loop-case-test.true refl
    c.loop-case.invariant.taken c.in_err-put_case.ensures.part)
