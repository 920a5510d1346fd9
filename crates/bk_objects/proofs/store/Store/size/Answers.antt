use Rattle.std.proofs.lemmas.List.{length-map}
use Rattle.bk_objects.proofs.Memories.{cells_at-view}
use Rattle.bk_objects.proofs.store.Store.size.Goals as goal

pub returns-in_err-cells_of : goal.returns-in_err-cells_of
returns-in_err-cells_of c =
    let applies = cells_at-view c.args.self.now c.self.inside.cells.items c.deref-2.result.now c.self.inside.lives.items c.deref.result.now c.self.inside.made c.args.object c.self.invariant c.self.view_is c.deref-2.ensures.value c.deref.ensures.value in
    rw (applies, ← c.in_err-cells_of.ensures) c.from_residual.ensures

pub returns : goal.returns
returns c =
    let applies = cells_at-view c.args.self.now c.self.inside.cells.items c.deref-2.result.now c.self.inside.lives.items c.deref.result.now c.self.inside.made c.args.object c.self.invariant c.self.view_is c.deref-2.ensures.value c.deref.ensures.value in
    rw (applies, ← c.in_ok-cells_of.ensures) (rw length-map)
