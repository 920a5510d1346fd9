use Rattle.bk_ocode.proofs.Parts.{on_err, rules, [], ◌∷◌, refl, AppendsPart, AppendsPart-after, spelling}
use Rattle.bk_ocode.proofs.printing.put_number.Goals as goal

pub returns-in_err-put_word-clause-part : goal.returns-in_err-put_word-clause-part
returns-in_err-put_word-clause-part g c =
    let part : AppendsPart (g.O.ByteOut.taken c.put.new.self) (g.O.ByteOut.taken c.put_word.new.out) (spelling c.args.number) = search rules in
    on_err c.from_residual-in_err-put_word.result (AppendsPart-after _ _ _ (32 ∷ []) (spelling c.args.number) _ refl c.in_ok-put.ensures.takes part)
