use Rattle.bk_check.proofs.Terms.{◌≡◌, ap, arith, length, Outcome, Done, command_in, past_command, full, mode_in, env_in, world, tag, done_tag, resumed}
use Rattle.bk_check.proofs.AtOnce.{last_one}
use Rattle.bk_check.proofs.Resuming.{meets}
use Rattle.bk_check.proofs.commands.one_of.Goals as goal

pub returns-then-is_empty-clause-comes : goal.returns-then-is_empty-clause-comes
returns-then-is_empty-clause-comes c =
    let none : length c.args.rest.now ≡ 0 = grind arith in
    meets c.act.result _ (λ b. world c.act.new.m b) _ _
    (λ p b. ap (λ (u : Outcome Done). resumed p c.args.m.now.frames.items (tag done_tag u)) (last_one (full p) c.args.rest.now (past_command (command_in c.args.first.now) (env_in c.args.env)) ((full p).act (command_in c.args.first.now) (mode_in c.args.mode) (env_in c.args.env) (world c.args.m.now b)) none)) c.act.ensures.comes
