use Rattle.bk_syntax.proofs.Unfinished.{goes_on_begins}
use Rattle.bk_syntax.proofs.laws.goes_on_begins.Goals as goal

pub returns : goal.returns
returns c = goes_on_begins
