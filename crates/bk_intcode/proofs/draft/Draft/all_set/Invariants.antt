use Rattle.bk_intcode.proofs.Terms.{◌≡◌, true, take, list_all, use_is_set}
use Rattle.bk_intcode.proofs.draft.Draft.all_set.Given as goal

abbrev pub invariant-loop-item : goal.invariant-loop-item
invariant-loop-item l = list_all (use_is_set l.self.items.items) (take l.item-index l.item-items) ≡ true
