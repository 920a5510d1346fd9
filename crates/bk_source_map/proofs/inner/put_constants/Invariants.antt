use Rattle.std.proofs.Common.{◌≡◌, ◌++◌, drop}
use Rattle.bk_tree.specs.Tree.{expressions_in}
use Rattle.bk_source_map.specs.Places.{constant_places}
use Rattle.bk_source_map.proofs.inner.put_constants.Given as goal

abbrev pub invariant-loop-expr : goal.invariant-loop-expr
invariant-loop-expr l = l.out.places.items ++ constant_places (expressions_in (drop l.expr-index l.exprs)) ≡ l.fn.out.places.items ++ constant_places (expressions_in l.exprs)
