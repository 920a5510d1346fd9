use Rattle.bk_machine.proofs.Terms.{sizes_added}
use Rattle.bk_machine.proofs.laws.sizes_are_added.Goals as goal

pub returns : goal.returns
returns c = sizes_added
