use Rattle.bk_check.proofs.Terms.{◌<◌, length, ap, ◌∙◌, arith, commands_in, declarations_in, Outcome, Done, mode_in, env_in, world, tag, done_tag, resumed, declared_then}
use Rattle.bk_check.proofs.Resuming.{pushed_closing}
use Rattle.bk_check.proofs.Scoped.{block_is}
use Rattle.bk_check.proofs.commands.block.Goals as goal

pub returns-in_ok-push-in-Some-clause-comes : goal.returns-in_ok-push-in-Some-clause-comes
returns-in_ok-push-in-Some-clause-comes c = λ p b l.
    let some : 0 < length c.args.decls.now = grind arith in
    pushed_closing p c.args.m.now.frames.items c.push.new.self.items c.made.result (declared_then p (declarations_in c.args.decls.now) (commands_in c.args.commands.now) (env_in c.args.env) (world c.args.m.now b)) c.in_ok-push-in-Some.ensures.items
    ∙ ap (λ (u : Outcome Done). resumed p c.args.m.now.frames.items (tag done_tag u)) (block_is p l c.args.decls.now (commands_in c.args.commands.now) (mode_in c.args.mode) (env_in c.args.env) (world c.args.m.now b) c.made.result some c.made.ensures)
