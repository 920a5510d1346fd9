use Rattle.bk_check.proofs.Terms.{ap, ◌∙◌, command_in, Environment, forwards, scope_of, alone, again, full, env_in, world, tag, done_tag, resumed, next_for, OnDone as d}
use Rattle.bk_check.proofs.Resuming.{meets, pushed_done}
use Rattle.bk_check.proofs.fors.for_round.Goals as goal

pub returns-clause-comes : goal.returns-clause-comes
returns-clause-comes c = meets c.alone.result _ (λ b. world c.alone.new.self b) _ _
    (λ p b. pushed_done p _ _ (d.ForRound c.args.run) (scope_of (full p) (alone (command_in c.args.run.body.now)) forwards (env_in c.in_ok-env.env) (world c.args.m.now b)) c.in_ok-push.ensures.items
    ∙ ap (λ (x : Environment). resumed p c.args.m.now.frames.items (tag done_tag (again (scope_of (full p) (alone (command_in c.args.run.body.now)) forwards x (world c.args.m.now b)) (next_for p c.args.run)))) c.in_ok-env.ensures) c.alone.ensures.comes
