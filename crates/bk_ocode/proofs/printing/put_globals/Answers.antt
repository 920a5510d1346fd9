use Rattle.bk_ocode.proofs.Parts.{on_err, rules, ◌∷◌, length, refl, Appends, AppendsPart, natural_word, spaced, global_words, AppendsPart-front, AppendsPart-after}
use Rattle.bk_ocode.proofs.printing.put_globals.Goals as goal

pub returns-in_err-put_natural-clause-part : goal.returns-in_err-put_natural-clause-part
returns-in_err-put_natural-clause-part g c =
    let part : AppendsPart (g.O.ByteOut.taken c.args.out.now) (g.O.ByteOut.taken c.put_natural.new.out) (32 ∷ natural_word (length c.args.entries.now)) = search rules in
    on_err c.from_residual.result
    (AppendsPart-front _ _ (32 ∷ natural_word (length c.args.entries.now)) (spaced (global_words c.args.entries.now)) _ refl part)

pub returns-in_err-put_entries-clause-part : goal.returns-in_err-put_entries-clause-part
returns-in_err-put_entries-clause-part g c =
    let front : Appends (g.O.ByteOut.taken c.args.out.now) (g.O.ByteOut.taken c.put_natural.new.out) (32 ∷ natural_word (length c.args.entries.now)) = search rules in
    on_err c.from_residual-in_err-put_entries.result
    (AppendsPart-after _ _ _ (32 ∷ natural_word (length c.args.entries.now)) (spaced (global_words c.args.entries.now)) _ refl front c.in_err-put_entries.ensures.part)
