use Rattle.bk_trans.proofs.Terms.{◌≡◌, drop, items_in, past_items}
use Rattle.bk_trans.proofs.writer.Writing.pass_items.Given as goal

abbrev pub invariant-loop-item : goal.invariant-loop-item
invariant-loop-item l = past_items (items_in (drop l._item-index l.items)) l.self ≡ past_items (items_in l.items) l.fn.self
