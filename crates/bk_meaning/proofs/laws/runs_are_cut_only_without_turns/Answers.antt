use Rattle.bk_meaning.proofs.MeaningSpending.{cut_only_without_turns}
use Rattle.bk_meaning.proofs.laws.runs_are_cut_only_without_turns.Goals as goal

pub returns : goal.returns
returns c = cut_only_without_turns
