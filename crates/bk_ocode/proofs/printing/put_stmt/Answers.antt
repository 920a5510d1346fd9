use Rattle.bk_ocode.proofs.Parts.{on_err, rules, ◌++◌, [], ◌∷◌, refl, append_assoc, Appends, AppendsPart, Begins-trans, AppendsPart-front, AppendsPart-after, spaced, argument_words, keyword}
use Rattle.bk_ocode.proofs.printing.put_stmt.Goals as goal

pub returns-in_err-put_all-clause-part : goal.returns-in_err-put_all-clause-part
returns-in_err-put_all-clause-part g c =
    let part : AppendsPart (g.O.ByteOut.taken c.args.out.now) (g.O.ByteOut.taken c.put_all.new.out) (keyword c.args.stmt.now) = search rules in
    on_err c.from_residual.result
    (AppendsPart-front _ _ (keyword c.args.stmt.now) (spaced (argument_words c.args.stmt.now) ++ 10 ∷ []) _ (append_assoc (keyword c.args.stmt.now) (spaced (argument_words c.args.stmt.now)) (10 ∷ [])) part)

pub returns-in_err-put_arguments-clause-part : goal.returns-in_err-put_arguments-clause-part
returns-in_err-put_arguments-clause-part g c =
    let front : Appends (g.O.ByteOut.taken c.args.out.now) (g.O.ByteOut.taken c.put_all.new.out) (keyword c.args.stmt.now) = search rules in
    on_err c.from_residual-in_err-put_arguments.result
    (AppendsPart-after _ _ _ (keyword c.args.stmt.now) (spaced (argument_words c.args.stmt.now) ++ 10 ∷ []) _ (append_assoc (keyword c.args.stmt.now) (spaced (argument_words c.args.stmt.now)) (10 ∷ [])) front
    (AppendsPart-front _ _ (spaced (argument_words c.args.stmt.now)) (10 ∷ []) _ refl c.in_err-put_arguments.ensures.part))

pub returns-in_err-put-clause-passes : goal.returns-in_err-put-clause-passes
returns-in_err-put-clause-passes g c =
    Begins-trans _ _ _ (Begins-trans _ _ _ c.in_ok-put_all.ensures.passes c.in_ok-put_arguments.ensures.passes) c.in_err-put.ensures.passes
