use Rattle.bk_ocode.proofs.Parts.{on_err, rules, ◌++◌, [], ◌∷◌, List, ℕ, ap, refl, append-nil, Appends, AppendsPart, spelling, label_word, AppendsPart-front, AppendsPart-after}
use Rattle.bk_ocode.proofs.printing.put_case.Goals as goal

pub returns-in_err-put_number-clause-part : goal.returns-in_err-put_number-clause-part
returns-in_err-put_number-clause-part g c =
    let part : AppendsPart (g.O.ByteOut.taken c.args.out.now) (g.O.ByteOut.taken c.put_number.new.out) (32 ∷ spelling c.args.case.value) = search rules in
    on_err c.from_residual.result (AppendsPart-front _ _ (32 ∷ spelling c.args.case.value) (32 ∷ (label_word c.args.case.label ++ [])) _ refl part)

pub returns-in_err-put_label-clause-part : goal.returns-in_err-put_label-clause-part
returns-in_err-put_label-clause-part g c =
    let front : Appends (g.O.ByteOut.taken c.args.out.now) (g.O.ByteOut.taken c.put_number.new.out) (32 ∷ spelling c.args.case.value) = search rules in
    let part : AppendsPart (g.O.ByteOut.taken c.put_number.new.out) (g.O.ByteOut.taken c.put_label.new.out) (32 ∷ label_word c.args.case.label) = search rules in
    on_err c.from_residual-in_err-put_label.result
    (AppendsPart-after _ _ _ (32 ∷ spelling c.args.case.value) (32 ∷ label_word c.args.case.label) _ (ap (λ (t : List ℕ). (32 ∷ spelling c.args.case.value) ++ t) (append-nil (32 ∷ label_word c.args.case.label))) front part)
