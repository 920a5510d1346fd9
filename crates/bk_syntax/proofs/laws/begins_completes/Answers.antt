use Rattle.bk_syntax.proofs.Reported.{begins_completes}
use Rattle.bk_syntax.proofs.laws.begins_completes.Goals as goal

pub returns : goal.returns
returns c = begins_completes
