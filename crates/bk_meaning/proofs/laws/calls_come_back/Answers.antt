use Rattle.bk_meaning.proofs.MeaningTies.{comes_back}
use Rattle.bk_meaning.proofs.laws.calls_come_back.Goals as goal

pub returns : goal.returns
returns c = comes_back
