-- A section within the limits takes few numbers.
use Rattle.std.specs.Prelude.{◌*◌, ◌≤◌}
use Rattle.bk_base.specs.declared.limit.TheConstants.{TREE_NODES}
use Rattle.bk_tree.specs.Tree.{Declarations}
use Rattle.bk_tree.specs.Limits.{Within}
use Rattle.bk_scope.specs.Spots.{numbers_declared}

-- FOUR NUMBERS A NODE AT MOST
abbrev pub FewNumbers : Type 0
FewNumbers = (ds : Declarations) → Within ds → numbers_declared ds ≤ 4 * TREE_NODES
