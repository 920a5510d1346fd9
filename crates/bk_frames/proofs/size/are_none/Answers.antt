use Rattle.bk_frames.proofs.Turns.{some_expressions}
use Rattle.bk_frames.proofs.size.are_none.Goals as goal

pub returns-in_default : goal.returns-in_default
returns-in_default c = some_expressions c.args.exprs.now c.in_default.len_at_least
