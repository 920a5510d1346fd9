use Rattle.bk_intcode.proofs.Parts.{on_none, nothing-frame}
use Rattle.bk_intcode.proofs.meaning.frame.Goals as goal

pub returns-in_err-within-clause-none : goal.returns-in_err-within-clause-none
returns-in_err-within-clause-none c = on_none c.from_residual.result (nothing-frame c.args.bytes.now c.in_err-within.ensures.none)
