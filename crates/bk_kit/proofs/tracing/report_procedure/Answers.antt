use Rattle.bk_kit.proofs.Terms.{Begins-trans}
use Rattle.bk_kit.proofs.tracing.report_procedure.Goals as goal

pub returns-then-is_ok-clause-passes : goal.returns-then-is_ok-clause-passes
returns-then-is_ok-clause-passes g c = Begins-trans _ _ _ c.put_procedure.ensures.passes c.flush-passed.ensures.passes
