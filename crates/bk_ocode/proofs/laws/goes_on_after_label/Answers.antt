use Rattle.bk_ocode.proofs.LabelRests.{goes_on_after_label}
use Rattle.bk_ocode.proofs.laws.goes_on_after_label.Goals as goal

pub returns : goal.returns
returns c = goes_on_after_label
