use Rattle.bk_check.proofs.Terms.{expression, value_of, full, env_in, world, OnValue as v}
use Rattle.bk_check.proofs.Resuming.{meets, pushed_value}
use Rattle.bk_check.proofs.machine.Evaluator.judged.Goals as goal

pub returns-clause-comes : goal.returns-clause-comes
returns-clause-comes c = meets c.value_inside.result _ (λ b. world c.value_inside.new.self b) _ _
    (λ p b. pushed_value p _ _ (v.Judge c.args.expr) (value_of p (full p) (expression c.args.expr.now) (env_in c.args.env) (world c.args.self.now b)) c.in_ok-push.ensures.items) c.value_inside.ensures.comes
