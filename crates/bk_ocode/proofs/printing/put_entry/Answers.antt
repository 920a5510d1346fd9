use Rattle.bk_ocode.proofs.Parts.{on_err, rules, ◌++◌, [], ◌∷◌, List, ℕ, ap, refl, append-nil, Appends, AppendsPart, natural_word, label_word, AppendsPart-front, AppendsPart-after}
use Rattle.bk_ocode.proofs.printing.put_entry.Goals as goal

pub returns-in_err-put_natural-clause-part : goal.returns-in_err-put_natural-clause-part
returns-in_err-put_natural-clause-part g c =
    let part : AppendsPart (g.O.ByteOut.taken c.args.out.now) (g.O.ByteOut.taken c.put_natural.new.out) (32 ∷ natural_word c.args.entry.number) = search rules in
    on_err c.from_residual.result (AppendsPart-front _ _ (32 ∷ natural_word c.args.entry.number) (32 ∷ (label_word c.args.entry.label ++ [])) _ refl part)

pub returns-in_err-put_label-clause-part : goal.returns-in_err-put_label-clause-part
returns-in_err-put_label-clause-part g c =
    let front : Appends (g.O.ByteOut.taken c.args.out.now) (g.O.ByteOut.taken c.put_natural.new.out) (32 ∷ natural_word c.args.entry.number) = search rules in
    let part : AppendsPart (g.O.ByteOut.taken c.put_natural.new.out) (g.O.ByteOut.taken c.put_label.new.out) (32 ∷ label_word c.args.entry.label) = search rules in
    on_err c.from_residual-in_err-put_label.result
    (AppendsPart-after _ _ _ (32 ∷ natural_word c.args.entry.number) (32 ∷ label_word c.args.entry.label) _ (ap (λ (t : List ℕ). (32 ∷ natural_word c.args.entry.number) ++ t) (append-nil (32 ∷ label_word c.args.entry.label))) front part)
