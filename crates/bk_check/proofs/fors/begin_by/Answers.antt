use Rattle.bk_check.proofs.Terms.{ℕ, List, ap, ◌∙◌, command_in, mention, Outcome, Done, remembering, bind, cell, for_test, for_rounds_of, full, value_in, env_in, world, tag, done_tag, resumed}
use Rattle.bk_check.proofs.Resuming.{meets, pushed_closing}
use Rattle.bk_check.proofs.ForLoops.{for_begun}
use Rattle.bk_check.proofs.fors.begin_by.Goals as goal

pub returns-clause-comes : goal.returns-clause-comes
returns-clause-comes c =
    let n = c.made-object.result in
    let at = c.args.name.now.at in
    let inside = env_in c.in_ok-inside.inside in
    let a = command_in c.args.body.now in
    let h = value_in c.args.limit in
    meets c.first_round.result _ (λ b. world c.first_round.new.m b) _ _
    (λ p b. pushed_closing p c.args.m.now.frames.items _ n (for_test at n h c.args.step (λ w. for_rounds_of (full p) at a n h c.args.step inside w) (remembering c.make_one.new.store (world c.args.m.now b))) c.in_ok-push.ensures.items
    ∙ ap (λ (u : Outcome Done). resumed p c.args.m.now.frames.items (tag done_tag u)) (for_begun p (mention c.args.name.now) a (value_in c.args.start) h c.args.step (env_in c.args.env) inside (world c.args.m.now b) n c.make_one.new.store c.made-object.ensures (c.in_ok-inside.ensures ∙ ap (λ (xs : List ℕ). bind xs (cell n 0) (env_in c.args.env)) c.deref.ensures) c.in_ok-make_one.ensures.made)) c.first_round.ensures.comes
