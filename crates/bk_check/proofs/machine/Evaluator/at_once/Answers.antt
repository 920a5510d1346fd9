use Rattle.bk_check.proofs.Terms.{refl, env_in, world}
use Rattle.bk_check.proofs.Resuming.{some_map}
use Rattle.bk_check.proofs.machine.Evaluator.at_once.Goals as goal

pub returns-clause-value : goal.returns-clause-value
returns-clause-value c = some_map _ _ c.known.result (λ k is p b. is p (env_in c.args.env.now) (world c.args.self.now b) refl refl refl) c.known.ensures.value
