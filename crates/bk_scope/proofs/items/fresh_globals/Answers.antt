use Rattle.bk_scope.proofs.Terms.{arith, common_steps}
use Rattle.bk_scope.proofs.FreshSteps.{bind_all-push}
use Rattle.bk_scope.proofs.items.fresh_globals.Goals as goal

pub loop-at-preserved : goal.loop-at-preserved
loop-at-preserved c = λ scope. grind (arith, common_steps, bind_all-push, c.loop-at.invariant scope)
