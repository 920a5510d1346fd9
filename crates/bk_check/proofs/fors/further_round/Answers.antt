use Rattle.bk_check.proofs.Terms.{◌-◌, ◌<◌, ap, sym, ◌∙◌, arith, command_in, World, Outcome, Done, full, value_in, env_in, world, tag, done_tag, resumed, full_for_rounds, turn_left}
use Rattle.bk_check.proofs.Resuming.{meets}
use Rattle.bk_check.proofs.fors.further_round.Goals as goal

pub returns-clause-comes : goal.returns-clause-comes
returns-clause-comes c =
    let lt : 0 < c.args.m.now.turns = grind arith in
    let f = c.args.run in
    meets c.for_round.result _ (λ b. world c.for_round.new.m b) _ _
    (λ p b. let w = world c.args.m.now b in
    ap (λ (u : Outcome Done). resumed p c.args.m.now.frames.items (tag done_tag u))
    (sym (full_for_rounds p f.name.now.at (command_in f.body.now) f.object (value_in f.limit) f.step (env_in f.env) (record w { turns = w.turns - 1 }))
    ∙ turn_left _ w (λ (w : World). (full p).for_rounds f.name.now.at (command_in f.body.now) f.object (value_in f.limit) f.step (env_in f.env) w) lt)) c.for_round.ensures.comes
