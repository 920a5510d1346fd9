use Rattle.bk_machine.proofs.Terms.{number_there}
use Rattle.bk_machine.proofs.laws.labels_stand_at_their_items.Goals as goal

pub returns : goal.returns
returns c = number_there
