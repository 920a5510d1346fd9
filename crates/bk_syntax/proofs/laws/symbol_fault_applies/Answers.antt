use Rattle.bk_syntax.proofs.Tags.{symbol_stands}
use Rattle.bk_syntax.proofs.laws.symbol_fault_applies.Goals as goal

pub returns : goal.returns
returns c = symbol_stands
