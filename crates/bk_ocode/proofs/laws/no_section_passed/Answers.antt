use Rattle.bk_ocode.proofs.CutSections.{no_section_passed}
use Rattle.bk_ocode.proofs.laws.no_section_passed.Goals as goal

pub returns : goal.returns
returns c = no_section_passed
