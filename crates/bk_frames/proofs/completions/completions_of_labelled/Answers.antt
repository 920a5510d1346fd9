use Rattle.std.proofs.Common.{◌+◌, refl}
use Rattle.bk_frames.proofs.completions.completions_of_labelled.Goals as goal

pub returns : goal.returns
returns c d n p = (c.node.ensures d n 0 p refl, c.beside.ensures d n (d + 1) 1 p (c.level_more.ensures d n p))
