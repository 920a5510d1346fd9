use Rattle.bk_trans.proofs.Terms.{◌≡◌, drop, definitions_in, any_variables}
use Rattle.bk_trans.proofs.nodes.has_variables.Given as goal

abbrev pub invariant-loop-def : goal.invariant-loop-def
invariant-loop-def l = any_variables (definitions_in (drop l.def-index l.defs)) ≡ any_variables (definitions_in l.defs)
