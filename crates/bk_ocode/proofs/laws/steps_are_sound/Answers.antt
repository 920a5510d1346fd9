use Rattle.bk_ocode.proofs.SoundRests.{steps_are_sound}
use Rattle.bk_ocode.proofs.laws.steps_are_sound.Goals as goal

pub returns : goal.returns
returns c = steps_are_sound
