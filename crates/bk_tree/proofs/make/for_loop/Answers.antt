use Rattle.bk_tree.proofs.Trees.{For_is}
use Rattle.bk_tree.proofs.make.for_loop.Goals as goal

pub returns : goal.returns
returns c = For_is c.args.at c.args.name c.args.from c.args.to c.args.by c.args.body
