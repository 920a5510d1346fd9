use Rattle.bk_tree.proofs.Trees.{Constants_is}
use Rattle.bk_tree.proofs.make.constants.Goals as goal

pub returns : goal.returns
returns c = Constants_is c.args.at c.args.sort c.args.items
