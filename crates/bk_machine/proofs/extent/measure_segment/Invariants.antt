use Rattle.bk_machine.proofs.Terms.{◌≡◌, ◌<◌, ◌≤◌, ◌||◌, take, drop, unwrap_or, frame_of, starts, reached_all}
use Rattle.bk_machine.proofs.extent.measure_segment.Given as goal

abbrev pub invariant-loop-item : goal.invariant-loop-item
invariant-loop-item l = record {
  reached : l.measure.extent ≡ reached_all l.start (take l.item-index l.items);
  room : l.measure.extent.next ≤ l.room;
  part : l.measure.extent.filled < 4;
  starts_are : (l.measure.starts || starts (drop l.item-index l.items)) ≡ starts l.items;
  frame_is : unwrap_or l.measure.frame (frame_of (drop l.item-index l.items)) ≡ frame_of l.items;
}
