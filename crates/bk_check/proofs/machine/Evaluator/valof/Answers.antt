use Rattle.bk_check.proofs.Terms.{command_in, forwards, scope_of, alone, full, env_in, world, OnDone as d}
use Rattle.bk_check.proofs.Resuming.{meets, pushed_done}
use Rattle.bk_check.proofs.machine.Evaluator.valof.Goals as goal

pub returns-clause-comes : goal.returns-clause-comes
returns-clause-comes c = meets c.alone.result _ (λ b. world c.alone.new.self b) _ _
    (λ p b. pushed_done p _ _ (d.Valof _) (scope_of (full p) (alone (command_in c.args.command.now)) forwards (env_in c.args.env) (world c.args.self.now b)) c.in_ok-push.ensures.items) c.alone.ensures.comes
