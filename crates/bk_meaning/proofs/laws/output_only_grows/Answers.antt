use Rattle.bk_meaning.proofs.MeaningTies.{only_grows}
use Rattle.bk_meaning.proofs.laws.output_only_grows.Goals as goal

pub returns : goal.returns
returns c = only_grows
