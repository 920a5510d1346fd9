use Rattle.bk_syntax.proofs.Tags.{tag_stands}
use Rattle.bk_syntax.proofs.laws.tag_fault_applies.Goals as goal

pub returns : goal.returns
returns c = tag_stands
