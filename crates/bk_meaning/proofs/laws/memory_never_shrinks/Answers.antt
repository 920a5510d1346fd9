use Rattle.bk_meaning.proofs.MeaningTies.{never_shrinks}
use Rattle.bk_meaning.proofs.laws.memory_never_shrinks.Goals as goal

pub returns : goal.returns
returns c = never_shrinks
