use Rattle.bk_ocode.proofs.JumpPlaces.{jump_finds_its_label}
use Rattle.bk_ocode.proofs.laws.jump_finds_its_label.Goals as goal

pub returns : goal.returns
returns c = jump_finds_its_label
