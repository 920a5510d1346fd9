use Rattle.bk_check.proofs.Terms.{refl, ap, expression, Value, Outcome, env_in, world, tag, a_value, resumed}
use Rattle.bk_check.proofs.Resuming.{meets}
use Rattle.bk_check.proofs.machine.Evaluator.arguments.Goals as goal

pub returns-clause-comes : goal.returns-clause-comes
returns-clause-comes c = meets c.first_argument.result _ (λ b. world c.first_argument.new.self b) _ _
    (λ p b. ap (λ (u : Outcome Value). resumed p c.args.self.now.frames.items (tag a_value u)) (c.in_ok-k.ensures.same p c.args.at (expression c.args.callee.now) (env_in c.args.env) (world c.args.self.now b) refl refl)) c.first_argument.ensures.comes
