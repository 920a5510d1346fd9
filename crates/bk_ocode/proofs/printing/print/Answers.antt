use Rattle.bk_ocode.proofs.Parts.{on_err, ◌≡◌, ◌∙◌, ◌++◌, ◌∷◌, [], ap, append-nil, sym, get_or, stmt_text, section_text, Stmt, line_rows, AppendsPart-row}
use Rattle.bk_ocode.proofs.printing.print.Goals as goal

pub returns-in_err-put_stmt-clause-part : goal.returns-in_err-put_stmt-clause-part
returns-in_err-put_stmt-clause-part g c =
    let x = c.stmt-item.result in
    let same : section_text (get_or c.stmts-stmt-items.result.now c.loop-stmt.stmt-index x ∷ []) ≡ stmt_text x ++ 10 ∷ [] =
    ap (λ (s : Stmt). section_text (s ∷ [])) (sym c.stmt-item.is) ∙ append-nil (stmt_text x ++ 10 ∷ []) in
    on_err c.from_residual.result
    (rw c.stmts-stmt-items.ensures.value at
    (AppendsPart-row Stmt section_text line_rows _ _ _ c.stmts-stmt-items.result.now c.loop-stmt.stmt-index x _ c.loop-stmt-test.true same c.loop-stmt.invariant.taken c.in_err-put_stmt.ensures.part))
