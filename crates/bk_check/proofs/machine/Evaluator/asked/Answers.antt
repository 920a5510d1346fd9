use Rattle.bk_check.proofs.Resuming.{pushed_value}
use Rattle.bk_check.proofs.machine.Evaluator.asked.Goals as goal

pub returns-clause-comes : goal.returns-clause-comes
returns-clause-comes c = λ p b. pushed_value p _ _ _ _ c.in_ok-push.ensures.items
