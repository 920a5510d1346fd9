use Rattle.bk_scope.proofs.Terms.{◌≡◌, drop, items_in, manifests}
use Rattle.bk_scope.proofs.items.manifests.Given as goal

abbrev pub invariant-loop-at : goal.invariant-loop-at
invariant-loop-at l =
    manifests l.list l.procedure (items_in (drop l.at-index l.items)) (record { scope = l.walk-inside.table; found = l.walk-inside.findings })
    ≡ manifests l.list l.procedure (items_in l.items) l.fn.walk
