use Rattle.bk_tree.proofs.Trees.{Variables_is}
use Rattle.bk_tree.proofs.make.variables.Goals as goal

pub returns : goal.returns
returns c = Variables_is c.args.at c.args.names c.args.inits
