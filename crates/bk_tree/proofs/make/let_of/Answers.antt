use Rattle.bk_tree.proofs.Trees.{Let_is}
use Rattle.bk_tree.proofs.make.let_of.Goals as goal

pub returns : goal.returns
returns c = Let_is c.args.at c.args.defs
