use Rattle.bk_scope.proofs.Terms.{◌≡◌, map, drop, mention, Found, with_formals}
use Rattle.bk_scope.proofs.entering.enter_formals.Given as goal

abbrev pub invariant-loop-formal : goal.invariant-loop-formal
invariant-loop-formal l = record {
  scope : with_formals l.procedure l.depth (map mention (drop l.formal-index l.formals)) l.walk-inside.table ≡ with_formals l.procedure 2 (map mention l.formals) l.fn.walk.scope;
  found : ◌≡◌ {A = Found} l.walk-inside.findings l.fn.walk.found;
}
