-- Progress: fewer steps are left after each.
use Rattle.std.proofs.Common.{◌<◌, ◌==◌, ◌+◌, cond}
use Rattle.std.proofs.lemmas.Bool.Decides.{nat_tests}
use Rattle.std.specs.Global.{Global}
use Rattle.bk_checker.proofs.Terms.{◌≡◌, ℕ, Bool, true, false, List, [], ◌∷◌, Vec, refl, arith, over, Continuation, Next, Next as n}
use Rattle.bk_check.specs.Progress.{weight, stands}
use Rattle.bk_check.specs.declared.machine.Evaluator.{Evaluator}
use Rattle.bk_checker.specs.Limits.{Progresses}
use Rattle.bk_objects.specs.declared.worth.Routine.{Routine}
use Rattle.bk_objects.specs.declared.worth.Worth.{Worth}

-- where a run goes on, and no routine is called, a step does not stand
pub stands_not : (fs : List Continuation) (next : Next) → over fs next ≡ false → ((spot : ℕ) (r : Routine) (vs : Vec Worth Global) → next ≡ n.Library spot r vs → ⊥) → stands fs next ≡ false
stands_not fs (n.Library spot r vs) h not = absurd (not spot r vs refl)
stands_not [] y h not = h
stands_not (f ∷ fs) y h not = h

-- fewer steps are left before a turn is taken
pub fewer : (m m' : Evaluator) (next next' : Next) (left : ℕ) → m.turns ≡ left → Progresses m next m' next'
    → cond (m'.turns == left) (weight m'.frames.items next' + 1) 0 < cond (m.turns == left) (weight m.frames.items next + 1) 0
fewer m m' next next' left at progress = rw here (by (m'.turns == left) refl)
  where
    here : (m.turns == left) ≡ true
    here = grind (arith, nat_tests)

    by : (b : Bool) → (m'.turns == left) ≡ b → cond b (weight m'.frames.items next' + 1) 0 < weight m.frames.items next + 1
    by true is = omega (arith, progress.1 (grind (arith, nat_tests)))
    by false is = omega arith
