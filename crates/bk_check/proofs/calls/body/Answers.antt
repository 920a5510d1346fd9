use Rattle.bk_check.proofs.Terms.{ap, sym, ◌∙◌, command_in, forwards, scope_of, alone, run_body, full, env_in, body_in, world, tag, a_value, resumed, OnDone as d}
use Rattle.bk_lasting.specs.declared.program.Body.{Body}
use Rattle.bk_check.proofs.Resuming.{meets, pushed_done}
use Rattle.bk_check.proofs.calls.body.Goals as goal

pub returns-in_ok-push-in-Command-clause-comes : goal.returns-in_ok-push-in-Command-clause-comes
returns-in_ok-push-in-Command-clause-comes c = meets c.alone.result _ (λ b. world c.alone.new.self b) _ _
    (λ p b. pushed_done p _ _ d.Body (scope_of (full p) (alone (command_in c.in-Command.command.now)) forwards (env_in c.args.env) (world c.args.m.now b)) c.in_ok-push-in-Command.ensures.items
    ∙ ap (λ (x : Body). resumed p c.args.m.now.frames.items (tag a_value (run_body (full p) (body_in x) (env_in c.args.env) (world c.args.m.now b)))) (sym c.in-Command.is)) c.alone.ensures.comes
