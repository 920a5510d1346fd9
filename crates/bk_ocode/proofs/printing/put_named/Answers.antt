use Rattle.bk_ocode.proofs.Parts.{on_err, rules, ◌∷◌, length, refl, Appends, AppendsPart, natural_word, label_word, spaced, byte_words, AppendsPart-front, AppendsPart-after}
use Rattle.bk_ocode.proofs.printing.put_named.Goals as goal

pub returns-in_err-put_label-clause-part : goal.returns-in_err-put_label-clause-part
returns-in_err-put_label-clause-part g c =
    let part : AppendsPart (g.O.ByteOut.taken c.args.out.now) (g.O.ByteOut.taken c.put_label.new.out) (32 ∷ label_word c.args.label) = search rules in
    on_err c.from_residual.result
    (AppendsPart-front _ _ (32 ∷ label_word c.args.label) (spaced (natural_word (length c.args.bytes.now) ∷ byte_words c.args.bytes.now)) _ refl part)

pub returns-in_err-put_counted-clause-part : goal.returns-in_err-put_counted-clause-part
returns-in_err-put_counted-clause-part g c =
    let front : Appends (g.O.ByteOut.taken c.args.out.now) (g.O.ByteOut.taken c.put_label.new.out) (32 ∷ label_word c.args.label) = search rules in
    on_err c.from_residual-in_err-put_counted.result
    (AppendsPart-after _ _ _ (32 ∷ label_word c.args.label) (spaced (natural_word (length c.args.bytes.now) ∷ byte_words c.args.bytes.now)) _ refl
    front c.in_err-put_counted.ensures.part)
