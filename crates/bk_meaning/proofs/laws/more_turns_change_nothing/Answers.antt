use Rattle.bk_meaning.proofs.MeaningTies.{more_turns}
use Rattle.bk_meaning.proofs.laws.more_turns_change_nothing.Goals as goal

pub returns : goal.returns
returns c = more_turns
