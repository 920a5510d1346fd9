use Rattle.bk_ocode.proofs.SoundStart.{first_state_is_sound}
use Rattle.bk_ocode.proofs.laws.first_state_is_sound.Goals as goal

pub returns : goal.returns
returns c = first_state_is_sound
