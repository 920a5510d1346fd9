use Rattle.bk_machine.proofs.Terms.{◌≡◌, ◌≤◌, map, drop, take, length, fold, items_of, SEGMENTS, stack_start, placed}
use Rattle.bk_machine.proofs.loader.loaded_store.Given as goal

abbrev pub invariant-loop-segment : goal.invariant-loop-segment
invariant-loop-segment l = record {
  placed : l.store.items ≡ fold placed l.initial.store.items (map items_of (take l.segment-index l.segments));
  first : SEGMENTS ≤ length l.store.items;
  rest : stack_start (length l.store.items) (map items_of (drop l.segment-index l.segments)) ≡ stack_start SEGMENTS (map items_of l.segments);
}
