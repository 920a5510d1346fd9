use Rattle.bk_gen.proofs.WholeBackEnd.{back_end_holds}
use Rattle.bk_gen.proofs.laws.back_end.Goals as goal

pub returns : goal.returns
returns c = back_end_holds c.run_laws.ensures c.laws.ensures.short
