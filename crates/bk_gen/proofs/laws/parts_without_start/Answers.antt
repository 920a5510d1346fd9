use Rattle.bk_gen.proofs.StartCalled.{has_no_start}
use Rattle.bk_gen.proofs.laws.parts_without_start.Goals as goal

pub returns : goal.returns
returns c parts words input room within none = has_no_start parts words input room within none
