use Rattle.bk_ocode.proofs.Parts.{on_err, ◌∷◌, length, refl, natural_word, byte_words, spaced, AppendsPart-front, AppendsPart-after}
use Rattle.bk_ocode.proofs.printing.put_counted.Goals as goal

pub returns-in_err-put_natural-clause-part : goal.returns-in_err-put_natural-clause-part
returns-in_err-put_natural-clause-part g c = on_err c.from_residual.result
    (AppendsPart-front _ _ (32 ∷ natural_word (length c.args.bytes.now)) (spaced (byte_words c.args.bytes.now)) _ refl c.in_err-put_natural.ensures.part)

pub returns-in_err-put_bytes-clause-part : goal.returns-in_err-put_bytes-clause-part
returns-in_err-put_bytes-clause-part g c = on_err c.from_residual-in_err-put_bytes.result
    (AppendsPart-after _ _ _ (32 ∷ natural_word (length c.args.bytes.now)) (spaced (byte_words c.args.bytes.now)) _ refl c.in_ok-put_natural.ensures.takes c.in_err-put_bytes.ensures.part)
