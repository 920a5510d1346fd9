use Rattle.bk_ocode.proofs.Parts.{on_err, rules, pos, [], ◌∷◌, refl, spelling, AppendsPart, AppendsPart-front, AppendsPart-after}
use Rattle.bk_ocode.proofs.printing.put_label.Goals as goal

pub returns-in_err-put_all-clause-part : goal.returns-in_err-put_all-clause-part
returns-in_err-put_all-clause-part g c = on_err c.from_residual.result
    (AppendsPart-front _ _ (32 ∷ 76 ∷ []) _ _ refl c.in_err-put_all.ensures.part)

pub returns-in_err-put_word-clause-part : goal.returns-in_err-put_word-clause-part
returns-in_err-put_word-clause-part g c =
    let part : AppendsPart (g.O.ByteOut.taken c.put_all.new.out) (g.O.ByteOut.taken c.put_word.new.out) (spelling (pos c.args.label)) = search rules in
    on_err c.from_residual-in_err-put_word.result (AppendsPart-after _ _ _ (32 ∷ 76 ∷ []) _ _ refl c.in_ok-put_all.ensures.takes part)
