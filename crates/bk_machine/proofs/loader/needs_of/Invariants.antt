use Rattle.bk_machine.proofs.Terms.{◌≡◌, ◌≤◌, ◌||◌, map, drop, max, items_of, SEGMENTS, stack_start, any_starts, greatest_frame}
use Rattle.bk_machine.proofs.loader.needs_of.Given as goal

abbrev pub invariant-loop-segment : goal.invariant-loop-segment
invariant-loop-segment l = record {
  rest : stack_start l.stack (map items_of (drop l.segment-index l.segments)) ≡ stack_start SEGMENTS (map items_of l.segments);
  room : l.stack ≤ l.room;
  starts_are : (l.starts || any_starts (map items_of (drop l.segment-index l.segments))) ≡ any_starts (map items_of l.segments);
  frame_is : max l.frame (greatest_frame (map items_of (drop l.segment-index l.segments))) ≡ greatest_frame (map items_of l.segments);
}
