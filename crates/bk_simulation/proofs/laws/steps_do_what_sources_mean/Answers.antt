use Rattle.bk_simulation.proofs.Unending.{steps_do_what_sources_mean}
use Rattle.bk_simulation.proofs.laws.steps_do_what_sources_mean.Goals as goal

pub returns : goal.returns
returns c = steps_do_what_sources_mean
