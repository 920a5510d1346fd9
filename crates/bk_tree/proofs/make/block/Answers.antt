use Rattle.bk_tree.proofs.Trees.{Block_is}
use Rattle.bk_tree.proofs.make.block.Goals as goal

pub returns : goal.returns
returns c = Block_is c.args.at c.args.decls c.args.commands
