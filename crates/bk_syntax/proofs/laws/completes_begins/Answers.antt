use Rattle.bk_syntax.proofs.Reported.{completes_begins}
use Rattle.bk_syntax.proofs.laws.completes_begins.Goals as goal

pub returns : goal.returns
returns c = completes_begins
