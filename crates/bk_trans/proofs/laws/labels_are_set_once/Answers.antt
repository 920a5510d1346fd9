use Rattle.bk_trans.proofs.Counted.{labels_are_set_once}
use Rattle.bk_trans.proofs.laws.labels_are_set_once.Goals as goal

pub returns : goal.returns
returns c = labels_are_set_once
