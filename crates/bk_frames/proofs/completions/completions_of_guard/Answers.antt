use Rattle.bk_frames.proofs.Terms.{◌≡◌, refl, sym, subst, Guard, Expression, Closing, Completion, One, Two, IsKept, AreKept, node, completions_of_guard, Guard as g, Link as l}
use Rattle.bk_frames.specs.declared.budget.Category.TheVariants.{Command}
use Rattle.bk_frames.proofs.completions.completions_of_guard.Goals as goal

case : (k : Guard) (x y : Completion) → k ≡ g.Case → AreKept (Two x y) (completions_of_guard g.Case) → AreKept (Two x y) (completions_of_guard k)
case k x y e h = let P : Guard → Type 0 = λ z. AreKept (Two x y) (completions_of_guard z) in subst P (sym e) h

other : (k : Guard) (x : Completion) → (k ≡ g.Case → ⊥) → IsKept x (node Expression (l.Then Closing) Command 0 0 1) → AreKept (One x) (completions_of_guard k)
other g.Case x f h = absurd (f refl)
other _ x f h = h

pub returns-in-Case : goal.returns-in-Case
returns-in-Case c = case c.args.guard c.node.result c.node-with_command.result c.in-Case.is (c.node.ensures 0 0 0 refl refl, c.node-with_command.ensures 0 0 1 refl refl)

pub returns-in_default : goal.returns-in_default
returns-in_default c = other c.args.guard c.node-with_command.result c.in_default.not-Case (c.node-with_command.ensures 0 0 1 refl refl)
