use Rattle.bk_source_map.proofs.PlacedAll.{statements_are_placed as holds}
use Rattle.bk_source_map.proofs.laws.statements_are_placed.Goals as goal

pub returns : goal.returns
returns c = holds
