use Rattle.bk_ocode.proofs.Parts.{on_err, refl, spaced, global_words, GlobalEntry, global_rows, AppendsPart-row}
use Rattle.bk_ocode.proofs.printing.put_entries.Goals as goal

pub returns-in_err-put_entry-clause-part : goal.returns-in_err-put_entry-clause-part
returns-in_err-put_entry-clause-part g c = on_err c.from_residual.result
    (AppendsPart-row GlobalEntry (λ xs. spaced (global_words xs)) global_rows _ _ _ c.args.entries.now c.loop-entry.entry-index _ _ c.loop-entry-test.true refl
    c.loop-entry.invariant.taken c.in_err-put_entry.ensures.part)
