use Rattle.bk_check.proofs.Terms.{◌≡◌, ◌<◌, ap, arith, command_in, Outcome, Done, mode_in, env_in, world, tag, done_tag, resumed}
use Rattle.bk_check.proofs.Resuming.{meets}
use Rattle.bk_check.proofs.Acts.{act_empty, act_left, act_none}
use Rattle.bk_check.proofs.commands.act.Goals as goal

pub returns-clause-comes : goal.returns-clause-comes
returns-clause-comes c =
    let lt : 0 < c.args.m.now.turns = grind arith in
    meets c.act_inside.result _ (λ b. world c.act_inside.new.m b) _ _
    (λ p b. ap (λ (u : Outcome Done). resumed p c.args.m.now.frames.items (tag done_tag u)) (act_left p (command_in c.args.command.now) (mode_in c.args.mode) (env_in c.args.env) (world c.args.m.now b) (grind arith) lt)) c.act_inside.ensures.comes

pub returns-then-m-eq0-clause-comes : goal.returns-then-m-eq0-clause-comes
returns-then-m-eq0-clause-comes c =
    let none : c.args.m.now.turns ≡ 0 = grind arith in
    rw c.at.ensures (λ p b. ap (λ (u : Outcome Done). resumed p c.args.m.now.frames.items (tag done_tag u)) (act_none p (command_in c.args.command.now) (mode_in c.args.mode) (env_in c.args.env) (world c.args.m.now b) (grind arith) none))

pub returns-then-is_empty-clause-comes : goal.returns-then-is_empty-clause-comes
returns-then-is_empty-clause-comes c = λ p b. ap (λ (u : Outcome Done). resumed p c.args.m.now.frames.items (tag done_tag u)) (act_empty p (command_in c.args.command.now) (mode_in c.args.mode) (env_in c.args.env) (world c.args.m.now b) (grind arith))
