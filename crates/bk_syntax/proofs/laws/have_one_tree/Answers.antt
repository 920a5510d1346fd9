use Rattle.bk_syntax.proofs.Applies.{one_tree}
use Rattle.bk_syntax.proofs.laws.have_one_tree.Goals as goal

pub returns : goal.returns
returns c = one_tree
