use Rattle.bk_machine.proofs.Terms.{number_within}
use Rattle.bk_machine.proofs.laws.labels_lie_within.Goals as goal

pub returns : goal.returns
returns c = number_within
