use Rattle.bk_scope.proofs.Terms.{◌≡◌, drop, expressions_in, constants_found}
use Rattle.bk_scope.proofs.items.constants.Given as goal

abbrev pub invariant-loop-expr : goal.invariant-loop-expr
invariant-loop-expr l =
    (l.walk-inside.table ≡ l.fn.walk.scope)
    × (constants_found l.fn.walk.scope l.procedure (expressions_in (drop l.expr-index l.exprs)) l.walk-inside.findings
    ≡ constants_found l.fn.walk.scope l.procedure (expressions_in l.exprs) l.fn.walk.found)
