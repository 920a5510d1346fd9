use Rattle.bk_machine.proofs.Terms.{lie_in_order}
use Rattle.bk_machine.proofs.laws.segments_lie_in_order.Goals as goal

pub returns : goal.returns
returns c = lie_in_order
