use Rattle.bk_lasting.proofs.Terms.{◌<◌, length, arith, names_of}
use Rattle.bk_lasting.specs.declared.env.Node.{Node, Node'}
use Rattle.bk_lasting.proofs.env.Node.drop.Goals as goal

some_name : (n : Node) → 0 < length (names_of n)
some_name (Node' x y outer) = omega arith

pub loop-rest-smaller : goal.loop-rest-smaller
loop-rest-smaller c = rw c.in-Some.is (some_name c.in-Some.node.value)
