use Rattle.bk_check.proofs.Terms.{refl, ap, sym, Bool, Outcome, env_in, world, resumed, truth_goes}
use Rattle.bk_check.proofs.Resuming.{meets, pushed_truth}
use Rattle.bk_check.proofs.machine.Evaluator.first_truth.Goals as goal

pub returns-in-Some-clause-comes : goal.returns-in-Some-clause-comes
returns-in-Some-clause-comes c = meets c.with_truth.result _ (λ b. world c.with_truth.new.m b) _ _
    (λ p b. ap (λ (u : Outcome Bool). resumed p c.args.self.now.frames.items (truth_goes p c.args.frame u)) (sym (c.in-Some.ensures.value p (env_in c.args.env) (world c.args.self.now b) refl refl refl))) c.with_truth.ensures.comes

pub returns-clause-comes : goal.returns-clause-comes
returns-clause-comes c = λ p b. pushed_truth p _ _ _ _ c.in_ok-push-in-None.ensures.items
