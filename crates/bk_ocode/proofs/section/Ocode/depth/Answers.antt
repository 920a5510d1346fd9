use Rattle.bk_ocode.proofs.Depths.{depth_within-at, depth_after-more, largest_after-more, ℕ, arith}
use Rattle.bk_ocode.proofs.section.Ocode.depth.Goals as goal

pub depth_after-depth-requires : goal.depth_after-depth-requires
depth_after-depth-requires c = grind (arith, depth_within-at)

pub loop-stmt-preserved : goal.loop-stmt-preserved
loop-stmt-preserved c = grind (arith, depth_within-at, depth_after-more, largest_after-more)
