use Rattle.bk_check.proofs.Terms.{refl, subst, expression, acts_at, Value, Outcome, world, tag, a_value, Comes, resumed}
use Rattle.bk_check.proofs.machine.Evaluator.fetched.Goals as goal

pub returns-clause-comes : goal.returns-clause-comes
returns-clause-comes c = λ p b. subst (λ (u : Outcome Value). Comes p c.args.self.now.frames.items c.came.result (world c.args.self.now b) (resumed p c.args.self.now.frames.items (tag a_value u))) (c.read.ensures (acts_at (expression c.args.expr.now)) (world c.args.self.now b) refl) (c.came.ensures.comes p c.args.self.now b)
