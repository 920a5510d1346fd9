use Rattle.bk_tree.proofs.Trees.{Table_is}
use Rattle.bk_tree.proofs.make.table.Goals as goal

pub returns : goal.returns
returns c = Table_is c.args.at c.args.items
