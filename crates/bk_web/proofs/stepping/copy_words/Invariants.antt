use Rattle.std.proofs.Common.{◌≡◌, ◌≤◌, ◌-◌, length, take}
use Rattle.bk_machine.specs.State.{store_of}
use Rattle.bk_web.proofs.stepping.copy_words.Given as goal

abbrev pub invariant-loop-at : goal.invariant-loop-at
invariant-loop-at l =
    (length l.to ≡ length l.initial.to)
    × (l.at ≤ length l.to)
    × (l.at ≤ length (store_of l.machine))
    × (take l.at l.to ≡ take l.at (store_of l.machine))

abbrev pub decreases-loop-at : goal.decreases-loop-at
decreases-loop-at l = length l.to - l.at
