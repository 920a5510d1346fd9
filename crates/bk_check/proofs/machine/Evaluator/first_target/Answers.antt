use Rattle.bk_check.proofs.Resuming.{pushed_target}
use Rattle.bk_check.proofs.machine.Evaluator.first_target.Goals as goal

pub returns-clause-comes : goal.returns-clause-comes
returns-clause-comes c = λ p b. pushed_target p _ _ _ _ c.in_ok-push.ensures.items
