use Rattle.bk_frames.proofs.Turns.{some_items}
use Rattle.bk_frames.proofs.size.are_no_items.Goals as goal

pub returns-in_default : goal.returns-in_default
returns-in_default c = some_items c.args.items.now c.in_default.len_at_least
