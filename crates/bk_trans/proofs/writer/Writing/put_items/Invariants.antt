use Rattle.bk_trans.proofs.Terms.{◌≡◌, drop, items_in, puts_items}
use Rattle.bk_trans.proofs.writer.Writing.put_items.Given as goal

abbrev pub invariant-loop-item : goal.invariant-loop-item
invariant-loop-item l = puts_items (items_in (drop l._item-index l.items)) l.self ≡ puts_items (items_in l.items) l.fn.self
