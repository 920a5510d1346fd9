use Rattle.bk_syntax.proofs.Applies.{end_stands}
use Rattle.bk_syntax.proofs.laws.end_fault_applies.Goals as goal

pub returns : goal.returns
returns c = end_stands
