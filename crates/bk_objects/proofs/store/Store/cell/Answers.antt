use Rattle.bk_objects.proofs.Terms.{◌≡◌, slice_get, ap, arith, common_steps, option_map, slice_get-map, gets, cell_in}
use Rattle.bk_objects.proofs.Memories.{cells_at-view}
use Rattle.bk_objects.proofs.store.Store.cell.Goals as goal

pub returns-in_err-cells_of : goal.returns-in_err-cells_of
returns-in_err-cells_of c =
    let applies = cells_at-view c.args.self.now c.self.inside.cells.items c.deref-2.result.now c.self.inside.lives.items c.deref.result.now c.self.inside.made c.args.object c.self.invariant c.self.view_is c.deref-2.ensures.value c.deref.ensures.value in
    rw (applies, ← c.in_err-cells_of.ensures) (ap (option_map cell_in) c.from_residual.ensures)

pub returns : goal.returns
returns c =
    let applies = cells_at-view c.args.self.now c.self.inside.cells.items c.deref-2.result.now c.self.inside.lives.items c.deref.result.now c.self.inside.made c.args.object c.self.invariant c.self.view_is c.deref-2.ensures.value c.deref.ensures.value in
    let read : c.copied.result ≡ slice_get c.in_ok-cells_of.field-0.now c.args.offset = grind (arith, common_steps, gets) in
    rw (applies, ← c.in_ok-cells_of.ensures, slice_get-map) (ap (option_map cell_in) read)
