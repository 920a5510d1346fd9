use Rattle.bk_machine.proofs.Routines.{routines, ◌≡◌, ◌-◌, ◌++◌}
use Rattle.bk_machine.proofs.library.push_routines.Given as goal

abbrev pub invariant-loop-global : goal.invariant-loop-global
invariant-loop-global l = l.words.items ≡ l.initial.words.items ++ routines (l.global - 2)
