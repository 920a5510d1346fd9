use Rattle.bk_syntax.proofs.Exact.{reads_the_grammar}
use Rattle.bk_syntax.proofs.laws.reads_the_grammar.Goals as goal

pub returns : goal.returns
returns c = reads_the_grammar
