use Rattle.std.proofs.Common.{◌≡◌, drop}
use Rattle.bk_tree.specs.Tree.{definitions_in}
use Rattle.bk_source_map.specs.Places.{any_variables}
use Rattle.bk_source_map.proofs.asked.has_variables.Given as goal

abbrev pub invariant-loop-def : goal.invariant-loop-def
invariant-loop-def l = any_variables (definitions_in (drop l.def-index l.defs)) ≡ any_variables (definitions_in l.defs)
