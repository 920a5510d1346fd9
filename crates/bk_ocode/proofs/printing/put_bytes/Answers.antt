use Rattle.bk_ocode.proofs.Parts.{on_err, ℕ, append-nil, spaced, byte_words, byte_rows, AppendsPart-row}
use Rattle.bk_ocode.proofs.printing.put_bytes.Goals as goal

pub returns-in_err-put_byte-clause-part : goal.returns-in_err-put_byte-clause-part
returns-in_err-put_byte-clause-part g c = on_err c.from_residual.result
    (AppendsPart-row ℕ (λ xs. spaced (byte_words xs)) byte_rows _ _ _ c.args.bytes.now c.loop-byte.byte-index _ _ c.loop-byte-test.true (append-nil _)
    c.loop-byte.invariant.taken c.in_err-put_byte.ensures.part)
