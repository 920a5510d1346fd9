use Rattle.bk_source_map.proofs.PlacedAll.{places_are_counted as holds}
use Rattle.bk_source_map.proofs.laws.places_are_counted.Goals as goal

pub returns : goal.returns
returns c = holds
