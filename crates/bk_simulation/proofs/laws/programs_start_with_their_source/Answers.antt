use Rattle.bk_simulation.proofs.Unending.{programs_start_with_their_source}
use Rattle.bk_simulation.proofs.laws.programs_start_with_their_source.Goals as goal

pub returns : goal.returns
returns c = programs_start_with_their_source
