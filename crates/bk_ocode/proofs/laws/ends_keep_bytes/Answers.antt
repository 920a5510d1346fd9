use Rattle.bk_ocode.proofs.GrowingSteps.{ends_keep_bytes}
use Rattle.bk_ocode.proofs.laws.ends_keep_bytes.Goals as goal

pub returns : goal.returns
returns c = ends_keep_bytes
