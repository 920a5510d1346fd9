use Rattle.bk_meaning.proofs.MeaningTies.{reads_from_the_front}
use Rattle.bk_meaning.proofs.laws.input_is_read_from_the_front.Goals as goal

pub returns : goal.returns
returns c = reads_from_the_front
