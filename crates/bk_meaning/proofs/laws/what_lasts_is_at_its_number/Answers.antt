use Rattle.bk_meaning.proofs.Standing.{stands_at_its_number}
use Rattle.bk_meaning.proofs.laws.what_lasts_is_at_its_number.Goals as goal

pub returns : goal.returns
returns c = stands_at_its_number
