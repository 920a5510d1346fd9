use Rattle.bk_scope.proofs.Soundness.{section_sound}
use Rattle.bk_scope.proofs.laws.faultless_is_sound.Goals as goal

pub returns : goal.returns
returns c = section_sound
