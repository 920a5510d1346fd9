use Rattle.bk_check.proofs.Terms.{◌-◌, ◌<◌, ap, sym, ◌∙◌, arith, command_in, World, Outcome, Done, forwards, full, env_in, world, tag, done_tag, resumed, full_rounds, turn_left}
use Rattle.bk_check.proofs.Resuming.{meets}
use Rattle.bk_check.proofs.loops.further_round.Goals as goal

pub returns-clause-comes : goal.returns-clause-comes
returns-clause-comes c =
    let lt : 0 < c.args.m.now.turns = grind arith in
    meets c.round.result _ (λ b. world c.round.new.m b) _ _
    (λ p b. let w = world c.args.m.now b in
    ap (λ (u : Outcome Done). resumed p c.args.m.now.frames.items (tag done_tag u))
    (sym (full_rounds p (command_in c.args.command.now) forwards (env_in c.args.env) (record w { turns = w.turns - 1 }))
    ∙ turn_left _ w (λ (w : World). (full p).rounds (command_in c.args.command.now) forwards (env_in c.args.env) w) lt)) c.round.ensures.comes
