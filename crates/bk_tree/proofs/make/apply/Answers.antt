use Rattle.bk_tree.proofs.Trees.{Apply_is}
use Rattle.bk_tree.proofs.make.apply.Goals as goal

pub returns : goal.returns
returns c = Apply_is c.args.at c.args.sign c.args.callee c.args.items
