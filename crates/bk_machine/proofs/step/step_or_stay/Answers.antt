use Rattle.bk_machine.proofs.KeptSteps.{stays_back}
use Rattle.bk_machine.proofs.step.step_or_stay.Goals as goal

pub returns-then-is_none-clause-kept : goal.returns-then-is_none-clause-kept
returns-then-is_none-clause-kept c = stays_back c.step-effect.result _ _ c.args.r.now c.step-effect.new.r _ c.if-prove.false c.step-effect.ensures.kept
