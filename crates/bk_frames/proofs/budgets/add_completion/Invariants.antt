use Rattle.bk_frames.proofs.Terms.{take, Completion, IsKept, AreAdded, by_completion}
use Rattle.bk_frames.proofs.budgets.add_completion.Given as goal

abbrev pub invariant-loop-budget : goal.invariant-loop-budget
invariant-loop-budget l = (e : Completion) → IsKept l.completion e → AreAdded (by_completion l.counts e (take l.budget-index l.below)) l.initial.budgets.items l.budgets.items
