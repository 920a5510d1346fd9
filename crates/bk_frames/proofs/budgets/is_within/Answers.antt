use Rattle.std.proofs.Common.{arith}
use Rattle.bk_frames.proofs.Ample.{within_by}
use Rattle.bk_frames.proofs.budgets.is_within.Goals as goal

pub returns : goal.returns
returns c e = within_by c.args.inner.now c.args.outer.now (cc) (cc) (omega arith) (omega arith)
