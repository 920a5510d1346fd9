use Rattle.bk_kit.proofs.Terms.{length}
use Rattle.bk_kit.proofs.status.+report_hints.Given as goal

abbrev pub decreases-report_hints : goal.decreases-report_hints
decreases-report_hints g l = length l.hints.now
