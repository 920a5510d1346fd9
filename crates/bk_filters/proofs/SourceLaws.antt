-- The laws on which runs of sources rest, from those of the layers below.
use Rattle.bk_filters.proofs.Terms.{BackEndHolds, PartsAreWellPlaced, PartsWithoutStart, StepsDoWhatSourcesMean, StepsGoOnWithTheirSource, StartsWithTheirSource}
use Rattle.bk_filters.proofs.MeaningLemmas.{RunLaws}
use Rattle.bk_filters.proofs.OneTree.{one_list_of_trees}
use Rattle.bk_filters.proofs.AcceptedTrees.{trees_are_accepted}

pub run_laws : BackEndHolds → PartsAreWellPlaced → PartsWithoutStart → StepsDoWhatSourcesMean → StepsGoOnWithTheirSource → StartsWithTheirSource → RunLaws
run_laws back placed without does goes_on begins = record {
  back = back;
  placed = placed;
  without = without;
  does = does;
  goes_on = goes_on;
  begins = begins;
  one = one_list_of_trees;
  accepted = trees_are_accepted;
}
