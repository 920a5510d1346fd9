use Rattle.std.proofs.Common.{◌≡◌, ◌++◌, drop}
use Rattle.bk_tree.specs.Tree.{items_in}
use Rattle.bk_source_map.specs.Places.{item_places}
use Rattle.bk_source_map.proofs.inner.put_items.Given as goal

abbrev pub invariant-loop-item : goal.invariant-loop-item
invariant-loop-item l = l.out.places.items ++ item_places (items_in (drop l.item-index l.items)) ≡ l.fn.out.places.items ++ item_places (items_in l.items)
