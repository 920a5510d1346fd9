use Rattle.bk_ocode.proofs.Terms.{◌≡◌, ◌≤◌, take, FRAME_WORDS, depth_after, largest_after}
use Rattle.bk_ocode.proofs.section.Ocode.depth.Given as goal

abbrev pub invariant-loop-stmt : goal.invariant-loop-stmt
invariant-loop-stmt l = record {
  depth : l.depth ≡ depth_after 0 (take l.stmt-index l.stmt-items);
  largest : l.largest ≡ largest_after 0 (take l.stmt-index l.stmt-items);
  within : l.largest ≤ FRAME_WORDS;
}
