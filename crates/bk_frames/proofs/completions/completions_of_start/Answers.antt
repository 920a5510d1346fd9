use Rattle.std.proofs.Common.{refl}
use Rattle.bk_frames.proofs.completions.completions_of_start.Goals as goal

pub returns : goal.returns
returns c = (c.node.ensures 0 0 1 refl refl, c.node-2.ensures 0 0 3 refl refl, c.beside.ensures 0 0 1 0 refl refl, c.beside-2.ensures 0 0 0 0 refl refl, c.node-3.ensures 0 0 0 refl refl)
