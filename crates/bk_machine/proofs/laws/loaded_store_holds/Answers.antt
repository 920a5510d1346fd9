use Rattle.bk_machine.proofs.Terms.{is_loaded}
use Rattle.bk_machine.proofs.laws.loaded_store_holds.Goals as goal

pub returns : goal.returns
returns c = is_loaded
