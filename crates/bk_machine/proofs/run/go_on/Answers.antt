use Rattle.bk_machine.proofs.RunSteps.{paused_none, went_on, went_more, rules, ◌≡◌, ◌+◌, ◌-◌, Some, length, arith, ap, refl, ◌∙◌, Begins-refl, Begins-trans, StepLimit, step, turn_of, padded}
use Rattle.bk_machine.proofs.KeptSteps.{step_kept}
use Rattle.bk_machine.proofs.run.go_on.Goals as goal

pub loop-i-init : goal.loop-i-init
loop-i-init g c = record { paused = paused_none _ _ _ _; passes = Begins-refl _; unblamed = refl }

pub returns-in_default-clause-stops : goal.returns-in_default-clause-stops
returns-in_default-clause-stops g c =
    let stays = rw c.in_default.is at c.step_or_stay.ensures.kept in
    rw c.beyond.ensures (record {
      done = c.loop-i.i;
      parts = omega arith;
      some = omega arith;
      paused = rw (stays.0, stays.1) c.loop-i.invariant.paused;
      outside = rw (stays.0, stays.1) (c.step_or_stay.ensures.turn ∙ ap (λ e. turn_of e c.step_or_stay.new.store c.step_or_stay.new.r) c.in_default.is);
    })

pub returns-in-Some-follow-clause-stops : goal.returns-in-Some-follow-clause-stops
returns-in-Some-follow-clause-stops g c =
    let count : c.args.steps ≡ (c.loop-i.i + 1) + (c.args.steps - (c.loop-i.i + 1)) = omega arith in
    let size : length c.step_or_stay.new.store ≡ length c.loop-i.store = search rules in
    let is : step c.loop-i.store c.loop-i.r ≡ turn_of (Some c.in-Some.effect) c.step_or_stay.new.store c.step_or_stay.new.r = search rules in
    let went = (rw c.in-Some-follow.is at c.follow.ensures.went) (padded c.args.count c.loop-i.store) c.loop-i.r c.in-Some.ensures.own
    (step_kept c.args.count _ _ _ _ c.in-Some.effect size c.in-Some.ensures.own is) in
    rw count (went_more _ (c.loop-i.i + 1) (c.args.steps - (c.loop-i.i + 1)) _ _ _ _ c.in-Some-follow.end _ _ ((rw c.in-Some-follow.is at c.follow.ensures.over) c.in-Some.ensures.own)
    (went_on _ c.loop-i.i 1 _ _ _ _ _ _ _ c.loop-i.invariant.paused c.follow.ensures.passes c.in-Some-follow.end _ _ went))

pub loop-i-preserved : goal.loop-i-preserved
loop-i-preserved g c =
    let size : length c.step_or_stay.new.store ≡ length c.loop-i.store = search rules in
    let is : step c.loop-i.store c.loop-i.r ≡ turn_of (Some c.in-Some.effect) c.step_or_stay.new.store c.step_or_stay.new.r = search rules in
    let went = (rw c.in_default-follow.is at c.follow.ensures.went) (padded c.args.count c.loop-i.store) c.loop-i.r c.in-Some.ensures.own
    (step_kept c.args.count _ _ _ _ c.in-Some.effect size c.in-Some.ensures.own is) in
    record {
      paused = went_on _ c.loop-i.i 1 _ _ _ _ _ _ _ c.loop-i.invariant.paused c.follow.ensures.passes StepLimit _ _ went;
      passes = Begins-trans _ _ _ c.loop-i.invariant.passes c.follow.ensures.passes;
      unblamed = (rw c.in_default-follow.is at c.follow.ensures.cause) c.in-Some.ensures.own ∙ c.loop-i.invariant.unblamed;
    }
