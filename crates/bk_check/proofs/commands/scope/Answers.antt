use Rattle.bk_check.proofs.Terms.{ap, ◌∙◌, commands_in, Outcome, Done, in_order, full, mode_in, env_in, world, tag, done_tag, resumed, OnDone as d}
use Rattle.bk_check.proofs.Resuming.{pushed_done}
use Rattle.bk_check.proofs.Scoped.{scope_is}
use Rattle.bk_check.proofs.commands.scope.Goals as goal

pub returns-clause-comes : goal.returns-clause-comes
returns-clause-comes c = λ p b.
    let cs = commands_in c.args.commands.now in
    pushed_done p c.args.m.now.frames.items c.push.new.self.items (d.Scope c.args.commands c.in_ok-again.field-0) (in_order (full p) cs (mode_in c.args.mode) (env_in c.in_ok-inside.inside) (world c.args.m.now b)) c.in_ok-push.ensures.items
    ∙ ap (λ (u : Outcome Done). resumed p c.args.m.now.frames.items (tag done_tag u)) (scope_is p cs (mode_in c.args.mode) (env_in c.args.env) (env_in c.in_ok-again.field-0) (env_in c.in_ok-inside.inside) (world c.args.m.now b) c.in_ok-again.ensures c.in_ok-inside.ensures)
