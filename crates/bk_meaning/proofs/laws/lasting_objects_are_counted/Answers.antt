use Rattle.bk_meaning.proofs.Numbers.{as_many_as_counted}
use Rattle.bk_meaning.proofs.laws.lasting_objects_are_counted.Goals as goal

pub returns : goal.returns
returns c = as_many_as_counted
