use Rattle.bk_ocode.proofs.LabelKinds.{global_finds_its_entry}
use Rattle.bk_ocode.proofs.laws.global_finds_its_entry.Goals as goal

pub returns : goal.returns
returns c = global_finds_its_entry
