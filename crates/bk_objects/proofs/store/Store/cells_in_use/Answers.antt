use Rattle.bk_objects.proofs.Terms.{◌∙◌, ap, sym, cells_living}
use Rattle.bk_objects.proofs.Memories.{cells_living-memory_of}
use Rattle.bk_objects.proofs.store.Store.cells_in_use.Goals as goal

pub returns : goal.returns
returns c = c.len.ensures ∙ c.self.inside.cells.ok.0 ∙ sym (ap cells_living (sym c.self.view_is) ∙ cells_living-memory_of _ _ _ c.self.invariant)
