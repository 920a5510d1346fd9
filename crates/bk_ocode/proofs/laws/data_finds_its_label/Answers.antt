use Rattle.bk_ocode.proofs.LabelKinds.{data_finds_its_label}
use Rattle.bk_ocode.proofs.laws.data_finds_its_label.Goals as goal

pub returns : goal.returns
returns c = data_finds_its_label
