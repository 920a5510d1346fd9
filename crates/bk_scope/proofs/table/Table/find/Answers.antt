use Rattle.bk_scope.proofs.Terms.{◌∙◌, sym, ap, Some, length, arith, bound_in, place_in, Entry}
use Rattle.bk_scope.proofs.TableSteps.{length-scope_of, place_in-below, bound_in-without_place, bound_at_place}
use Rattle.bk_scope.proofs.table.Table.find.Goals as goal

pub returns-in_err-place : goal.returns-in_err-place
returns-in_err-place c = c.from_residual.ensures ∙ sym (bound_in-without_place c.args.self.now c.args.name.now (sym c.in_err-place.ensures))

pub index-requires : goal.index-requires
index-requires c =
    let below = place_in-below c.args.self.now c.args.name.now c.in_ok-place.place (sym c.in_ok-place.ensures) in
    omega (arith, below, ap length c.self.view_is, length-scope_of c.self.inside.bindings.items)

pub returns : goal.returns
returns c =
    let found = ap (λ bs. place_in bs c.args.name.now) c.self.view_is ∙ sym c.in_ok-place.ensures in
    ap (λ (e : Entry). Some e.bound) c.index.ensures
    ∙ sym (bound_at_place c.self.inside.bindings.items c.args.name.now c.in_ok-place.place c.index.result.now found)
    ∙ ap (λ bs. bound_in bs c.args.name.now) c.self.view_is
