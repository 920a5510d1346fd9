use Rattle.bk_meaning.proofs.MeaningTies.{what_lasts_lives}
use Rattle.bk_meaning.proofs.laws.what_lasts_lives.Goals as goal

pub returns : goal.returns
returns c = what_lasts_lives
