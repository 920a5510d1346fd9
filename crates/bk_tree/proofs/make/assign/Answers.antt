use Rattle.bk_tree.proofs.Trees.{Assign_is}
use Rattle.bk_tree.proofs.make.assign.Goals as goal

pub returns : goal.returns
returns c = Assign_is c.args.at c.args.dests c.args.values
