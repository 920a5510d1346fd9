use Rattle.bk_scope.proofs.Terms.{◌≡◌, drop, definitions_in, with_procedures}
use Rattle.bk_scope.proofs.entering.enter_procedures.Given as goal

abbrev pub invariant-loop-def : goal.invariant-loop-def
invariant-loop-def l = with_procedures (definitions_in (drop l.def-index l.defs)) l.walk ≡ with_procedures (definitions_in l.defs) l.fn.walk
