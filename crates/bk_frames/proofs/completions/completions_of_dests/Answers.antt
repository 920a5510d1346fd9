use Rattle.std.proofs.Common.{◌+◌, arith}
use Rattle.bk_frames.proofs.completions.completions_of_dests.Goals as goal

pub returns : goal.returns
returns c d n o p q = (c.node.ensures d n (o + 1) p (omega (arith, q, c.plus.ensures)), c.node-2.ensures d n (o + 3) p (omega (arith, q, c.plus-2.ensures)))
