use Rattle.bk_ocode.proofs.Parts.{on_err, rules, ◌++◌, ◌∷◌, length, sym, refl, append_assoc, Appends, AppendsPart, natural_word, label_word, spaced, case_words, AppendsPart-front, AppendsPart-after, Appends-trans}
use Rattle.bk_ocode.proofs.printing.put_switch.Goals as goal

pub returns-in_err-put_natural-clause-part : goal.returns-in_err-put_natural-clause-part
returns-in_err-put_natural-clause-part g c =
    let part : AppendsPart (g.O.ByteOut.taken c.args.out.now) (g.O.ByteOut.taken c.put_natural.new.out) (32 ∷ natural_word (length c.args.cases.now)) = search rules in
    on_err c.from_residual.result
    (AppendsPart-front _ _ (32 ∷ natural_word (length c.args.cases.now)) (spaced (label_word c.args.default ∷ case_words c.args.cases.now)) _ refl part)

pub returns-in_err-put_label-clause-part : goal.returns-in_err-put_label-clause-part
returns-in_err-put_label-clause-part g c =
    let front : Appends (g.O.ByteOut.taken c.args.out.now) (g.O.ByteOut.taken c.put_natural.new.out) (32 ∷ natural_word (length c.args.cases.now)) = search rules in
    let part : AppendsPart (g.O.ByteOut.taken c.put_natural.new.out) (g.O.ByteOut.taken c.put_label.new.out) (32 ∷ label_word c.args.default) = search rules in
    on_err c.from_residual-in_err-put_label.result
    (AppendsPart-after _ _ _ (32 ∷ natural_word (length c.args.cases.now)) (spaced (label_word c.args.default ∷ case_words c.args.cases.now)) _ refl front
    (AppendsPart-front _ _ (32 ∷ label_word c.args.default) (spaced (case_words c.args.cases.now)) _ refl part))

pub returns-in_err-put_cases-clause-part : goal.returns-in_err-put_cases-clause-part
returns-in_err-put_cases-clause-part g c =
    let front : Appends (g.O.ByteOut.taken c.args.out.now) (g.O.ByteOut.taken c.put_natural.new.out) (32 ∷ natural_word (length c.args.cases.now)) = search rules in
    let default : Appends (g.O.ByteOut.taken c.put_natural.new.out) (g.O.ByteOut.taken c.put_label.new.out) (32 ∷ label_word c.args.default) = search rules in
    on_err c.from_residual-in_err-put_cases.result
    (AppendsPart-after _ _ _ ((32 ∷ natural_word (length c.args.cases.now)) ++ (32 ∷ label_word c.args.default)) (spaced (case_words c.args.cases.now)) _
    (sym (append_assoc (32 ∷ natural_word (length c.args.cases.now)) (32 ∷ label_word c.args.default) (spaced (case_words c.args.cases.now))))
    (Appends-trans _ _ _ (32 ∷ natural_word (length c.args.cases.now)) (32 ∷ label_word c.args.default) front default) c.in_err-put_cases.ensures.part)
