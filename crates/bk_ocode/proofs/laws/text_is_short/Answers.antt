use Rattle.bk_ocode.proofs.LabelKinds.{text_is_short}
use Rattle.bk_ocode.proofs.laws.text_is_short.Goals as goal

pub returns : goal.returns
returns c = text_is_short
