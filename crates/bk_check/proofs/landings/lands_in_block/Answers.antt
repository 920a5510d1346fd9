use Rattle.bk_check.proofs.Terms.{◌≡◌, None, Some, ap, sym, ◌∙◌, commands_in, Outcome, Done, turn, Environment, following, labelled, the_label, seeking, in_order, full, env_in, world, tag, done_tag, resumed, OnDone as d}
use Rattle.std.specs.Option.{option_map}
use Rattle.bk_check.specs.Places.{place_in, place_from}
use Rattle.bk_check.proofs.LandingSteps.{block_landed, block_not_landed}
use Rattle.bk_check.proofs.Resuming.{pushed_done}
use Rattle.bk_check.proofs.landings.lands_in_block.Goals as goal

pub returns-in-None-clause-comes : goal.returns-in-None-clause-comes
returns-in-None-clause-comes c =
    let cs = c.args.scope.commands in
    let none : place_from c.args.label.now 0 cs ≡ None = sym c.in_ok-place.ensures ∙ ap (option_map place_in) c.in-None.is in
    λ p b. ap (λ (u : Outcome Done). resumed p c.args.m.now.frames.items (tag done_tag u)) (block_not_landed p c.args.at cs c.args.scope.env c.args.label.now (world c.args.m.now b) none)

pub returns-clause-comes : goal.returns-clause-comes
returns-clause-comes c =
    let cs = c.args.scope.commands in
    let place = c.in-Some.place in
    let here = env_in c.in_ok-inside-in-Some-2.inside in
    let found : place_from c.args.label.now 0 cs ≡ Some (place_in place) = sym c.in_ok-place.ensures ∙ ap (option_map place_in) c.in-Some.is in
    let inside : here ≡ following place.objects (labelled (commands_in cs) c.args.scope.env) = c.in_ok-inside-in-Some-2.ensures ∙ ap (λ (e : Environment). following place.objects e) c.in_ok-inside-in-Some.ensures in
    λ p b. c.enter_block.ensures.comes p b
    ∙ pushed_done p c.args.m.now.frames.items c.push.new.self.items (d.LandedInBlock c.args.at c.args.scope) (turn c.args.at (world c.args.m.now b) (λ w. in_order (full p) (commands_in place.commands.now) (seeking (the_label c.args.label.now)) here w)) c.in_ok-push-in-Some.ensures.items
    ∙ ap (λ (u : Outcome Done). resumed p c.args.m.now.frames.items (tag done_tag u)) (block_landed p c.args.at cs place.commands.now place.objects c.args.scope.env here c.args.label.now (world c.args.m.now b) found inside)
