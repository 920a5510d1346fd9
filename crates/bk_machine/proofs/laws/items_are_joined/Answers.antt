use Rattle.bk_machine.proofs.Terms.{items_joined}
use Rattle.bk_machine.proofs.laws.items_are_joined.Goals as goal

pub returns : goal.returns
returns c = items_joined
