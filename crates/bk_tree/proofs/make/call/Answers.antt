use Rattle.bk_tree.proofs.Trees.{Call_is}
use Rattle.bk_tree.proofs.make.call.Goals as goal

pub returns : goal.returns
returns c = Call_is c.args.at c.args.callee c.args.items
