use Rattle.bk_kit.proofs.Terms.{Begins-trans}
use Rattle.bk_kit.proofs.tracing.report_code.Goals as goal

pub returns-clause-grows : goal.returns-clause-grows
returns-clause-grows g c = Begins-trans _ _ _ c.report_procedure.ensures.grows c.report_step.ensures.grows

pub returns-clause-passes : goal.returns-clause-passes
returns-clause-passes g c = Begins-trans _ _ _ c.report_procedure.ensures.passes c.report_step.ensures.passes
