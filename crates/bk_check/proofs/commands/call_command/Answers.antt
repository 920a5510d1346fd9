use Rattle.bk_check.proofs.Terms.{expression, expressions_in, applied, full, env_in, world, OnValue as v}
use Rattle.bk_check.proofs.Resuming.{meets, pushed_value}
use Rattle.bk_check.proofs.commands.call_command.Goals as goal

pub returns-clause-comes : goal.returns-clause-comes
returns-clause-comes c = meets c.apply.result _ (λ b. world c.apply.new.self b) _ _
    (λ p b. pushed_value p _ _ v.Dropped (applied p (full p) c.args.at (expression c.args.callee.now) (expressions_in c.args.items.now) (env_in c.args.env) (world c.args.m.now b)) c.in_ok-push.ensures.items) c.apply.ensures.comes
