use Rattle.std.proofs.Common.{refl}
use Rattle.bk_frames.proofs.completions.completions_of_closed.Goals as goal

pub returns : goal.returns
returns c d n p = (c.node.ensures d n 0 p refl, c.deep.ensures d n p)
