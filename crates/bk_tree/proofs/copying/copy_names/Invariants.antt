use Rattle.std.proofs.Common.{◌≡◌, take, map}
use Rattle.bk_tree.specs.Tree.{mention}
use Rattle.bk_tree.proofs.copying.copy_names.Given as goal

abbrev pub invariant-loop-name : goal.invariant-loop-name
invariant-loop-name l = map mention l.copies.items ≡ map mention (take l.name-index l.names)
