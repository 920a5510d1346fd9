use Rattle.bk_ocode.proofs.Depths.{depths_suffice}
use Rattle.bk_ocode.proofs.laws.depths_suffice.Goals as goal

pub returns : goal.returns
returns c = depths_suffice
