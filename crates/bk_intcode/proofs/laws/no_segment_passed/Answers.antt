use Rattle.bk_intcode.proofs.CutSegments.{no_segment_passed}
use Rattle.bk_intcode.proofs.laws.no_segment_passed.Goals as goal

pub returns : goal.returns
returns c = no_segment_passed
