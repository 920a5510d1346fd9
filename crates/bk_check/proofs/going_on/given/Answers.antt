use Rattle.bk_check.proofs.Terms.{gives, program_in, world, thing_in}
use Rattle.bk_check.proofs.Resuming.{meets_in, popped}
use Rattle.bk_check.proofs.going_on.given.Goals as goal

pub returns-in-Some-clause-comes : goal.returns-in-Some-clause-comes
returns-in-Some-clause-comes c = meets_in (program_in c.args.program.now) c.frame_with.result _ (λ b. world c.frame_with.new.m b) _ _
    (λ b. popped (program_in c.args.program.now) _ _ c.in-Some.frame (gives (thing_in c.args.thing) (world c.args.m.now b)) c.in-Some.ensures.items) c.frame_with.ensures.comes
