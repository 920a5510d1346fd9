use Rattle.bk_kit.proofs.Terms.{length}
use Rattle.bk_kit.proofs.status.+report_remarks.Given as goal

abbrev pub decreases-report_remarks : goal.decreases-report_remarks
decreases-report_remarks g l = length l.remarks.now
