use Rattle.bk_ocode.proofs.NearerSteps.{steps_come_nearer}
use Rattle.bk_ocode.proofs.laws.steps_come_nearer.Goals as goal

pub returns : goal.returns
returns c = steps_come_nearer
