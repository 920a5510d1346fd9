use Rattle.bk_scope.proofs.Parts.{section_clean}
use Rattle.bk_scope.proofs.laws.sections_are_clean.Goals as goal

pub returns : goal.returns
returns c = section_clean
