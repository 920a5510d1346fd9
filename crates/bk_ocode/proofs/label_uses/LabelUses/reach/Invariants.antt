use Rattle.bk_ocode.proofs.Terms.{◌≡◌, ◌+◌, ◌-◌, length, uses_of}
use Rattle.bk_ocode.proofs.label_uses.LabelUses.reach.Given as goal

abbrev pub invariant-loop-self : goal.invariant-loop-self
invariant-loop-self l = uses_of l.self ≡ uses_of l.initial.self

abbrev pub decreases-loop-self : goal.decreases-loop-self
decreases-loop-self l = l.label + 1 - length l.self.low.items
