use Rattle.bk_ocode.proofs.Terms.{◌≡◌, take, map, all_changed, jumped, uses_of}
use Rattle.bk_ocode.proofs.label_uses.LabelUses.jump_cases.Given as goal

abbrev pub invariant-loop-case : goal.invariant-loop-case
invariant-loop-case l = uses_of l.self ≡ all_changed (map (λ c. c.label) (take l.case-index l.cases)) (jumped l.depth) (uses_of l.initial.self)
