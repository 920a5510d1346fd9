use Rattle.bk_machine.proofs.Terms.{◌≡◌, ◌-◌, matched}
use Rattle.bk_machine.proofs.step.match_pairs.Given as goal

abbrev pub invariant-loop-i : goal.invariant-loop-i
invariant-loop-i l = matched l.count l.store l.start l.a l.otherwise ≡ matched (l.count - l.i) l.store l.at l.a l.otherwise
