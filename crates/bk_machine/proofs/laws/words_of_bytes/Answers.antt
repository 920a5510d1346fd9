use Rattle.bk_machine.proofs.Terms.{words_of_bytes}
use Rattle.bk_machine.proofs.laws.words_of_bytes.Goals as goal

pub returns : goal.returns
returns c = words_of_bytes
