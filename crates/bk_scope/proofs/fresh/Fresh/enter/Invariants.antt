use Rattle.bk_scope.proofs.Terms.{◌≡◌, drop, bind_all}
use Rattle.bk_scope.specs.FreshView.{bindings_of}
use Rattle.bk_scope.proofs.fresh.Fresh.enter.Given as goal

abbrev pub invariant-loop-fresh : goal.invariant-loop-fresh
invariant-loop-fresh l = bind_all (bindings_of (drop l.fresh-index l.bindings)) l.table ≡ bind_all (bindings_of l.bindings) l.fn.table
