use Rattle.bk_kit.proofs.Terms.{rules, ◌≡◌, ◌≢◌, ◌+◌, ◌-◌, arith, Begins-trans, StepLimit, HeldBy}
use Rattle.bk_kit.proofs.TraceLemmas.{paused_more, ran_more}
use Rattle.bk_kit.proofs.tracing.run_steps.Goals as goal

pub returns-then-ne-clause-ran : goal.returns-then-ne-clause-ran
returns-then-ne-clause-ran g c = λ sound.
    let count : c.args.limits.steps ≡ (c.loop-i.i + 1) + (c.args.limits.steps - (c.loop-i.i + 1)) = omega (arith, c.steps-i-end.ensures.value) in
    let ends : c.run_step-end.result ≢ StepLimit = search rules in
    rw count (ran_more (HeldBy g.I.ByteIn.held) c.loop-i.i (c.args.limits.steps - (c.loop-i.i + 1)) _ _ _ _ _ _ _ _ _ c.loop-i.invariant.paused c.run_step-end.ensures.passes c.run_step-end.result ends sound c.run_step-end.ensures.ran)

pub returns-then-ne-clause-passes : goal.returns-then-ne-clause-passes
returns-then-ne-clause-passes g c = Begins-trans _ _ _ c.loop-i.invariant.passes c.run_step-end.ensures.passes

pub returns-then-ne-clause-reported : goal.returns-then-ne-clause-reported
returns-then-ne-clause-reported g c = (Begins-trans _ _ _ c.loop-i.invariant.reported.0 c.run_step-end.ensures.reported.0, Begins-trans _ _ _ c.loop-i.invariant.reported.1 c.run_step-end.ensures.reported.1)

pub loop-i-preserved : goal.loop-i-preserved
loop-i-preserved g c =
    let goes : c.run_step-end.result ≡ StepLimit = search rules in
    record {
      paused = paused_more (HeldBy g.I.ByteIn.held) c.loop-i.i 0 _ _ _ _ _ _ _ _ _ c.loop-i.invariant.paused c.run_step-end.ensures.passes (rw goes at c.run_step-end.ensures.ran);
      passes = Begins-trans _ _ _ c.loop-i.invariant.passes c.run_step-end.ensures.passes;
      fresh = c.run_step-end.ensures.paused goes;
      unblamed = search rules;
      flushed = λ some. (search rules, search rules);
      reported = (Begins-trans _ _ _ c.loop-i.invariant.reported.0 c.run_step-end.ensures.reported.0, Begins-trans _ _ _ c.loop-i.invariant.reported.1 c.run_step-end.ensures.reported.1);
    }
