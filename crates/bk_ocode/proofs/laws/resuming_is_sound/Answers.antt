use Rattle.bk_ocode.proofs.SoundRests.{resuming_is_sound}
use Rattle.bk_ocode.proofs.laws.resuming_is_sound.Goals as goal

pub returns : goal.returns
returns c = resuming_is_sound
