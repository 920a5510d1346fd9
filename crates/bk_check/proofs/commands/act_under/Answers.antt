use Rattle.bk_check.proofs.Terms.{command_in, full, mode_in, env_in, world}
use Rattle.bk_check.proofs.Resuming.{meets, pushed_done}
use Rattle.bk_check.proofs.commands.act_under.Goals as goal

pub returns-clause-comes : goal.returns-clause-comes
returns-clause-comes c = meets c.act.result _ (λ b. world c.act.new.m b) _ _
    (λ p b. pushed_done p _ _ c.args.frame ((full p).act (command_in c.args.command.now) (mode_in c.args.mode) (env_in c.args.env) (world c.args.m.now b)) c.in_ok-push.ensures.items) c.act.ensures.comes
