use Rattle.bk_machine.proofs.Terms.{◌≡◌, take, fold, grown, segment_settings, with_setting, number_of, IsFilled}
use Rattle.bk_machine.proofs.Growing.{growth_of}
use Rattle.bk_machine.proofs.packing.push_items.Given as goal

abbrev pub invariant-loop-item : goal.invariant-loop-item
invariant-loop-item l = record {
  grown : growth_of l.words.items l.filled
      ≡ fold (grown (number_of l.labels)) (growth_of (fold with_setting l.initial.words.items (segment_settings (number_of l.labels) (take l.item-index l.items))) 0) (take l.item-index l.items);
  filled : IsFilled l.words.items l.filled;
}
