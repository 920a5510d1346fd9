use Rattle.bk_check.proofs.Terms.{leaves, world, exit_in}
use Rattle.bk_check.proofs.Resuming.{meets, popped}
use Rattle.bk_check.proofs.going_on.left.Goals as goal

pub returns-in-Some-clause-comes : goal.returns-in-Some-clause-comes
returns-in-Some-clause-comes c = meets c.frame_left.result _ (λ b. world c.frame_left.new.m b) _ _
    (λ p b. popped p _ _ c.in-Some.frame (leaves (exit_in c.args.exit) (world c.args.m.now b)) c.in-Some.ensures.items) c.frame_left.ensures.comes
