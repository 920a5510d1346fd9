use Rattle.bk_scope.proofs.Terms.{◌≡◌, List, drop, items_in, Binding, statics, bind_all}
use Rattle.bk_scope.proofs.items.fresh_statics.Given as goal

abbrev pub invariant-loop-at : goal.invariant-loop-at
invariant-loop-at l =
    (scope : List Binding) → statics l.table l.list l.procedure (items_in (drop l.at-index l.items)) (record { scope = bind_all l.fresh scope; found = l.findings })
    ≡ statics l.table l.list l.procedure (items_in l.items) (record { scope = scope; found = l.fn.findings })
