use Rattle.bk_simulation.proofs.Unending.{steps_go_on_with_their_source}
use Rattle.bk_simulation.proofs.laws.steps_go_on_with_their_source.Goals as goal

pub returns : goal.returns
returns c = steps_go_on_with_their_source
