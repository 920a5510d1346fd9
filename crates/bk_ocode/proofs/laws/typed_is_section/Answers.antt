use Rattle.bk_ocode.proofs.TypedSections.{typed_is_section}
use Rattle.bk_ocode.proofs.laws.typed_is_section.Goals as goal

pub returns : goal.returns
returns c = typed_is_section
