use Rattle.std.proofs.Common.{◌≡◌}
use Rattle.bk_frames.proofs.Ample.{unserved}
use Rattle.bk_frames.proofs.budgets.left_of.Goals as goal

pub returns-then-not-serves : goal.returns-then-not-serves
returns-then-not-serves c e h x k d n = unserved c.args.counts e c.args.budget.now (let f : c.args.completion.now.onto ≡ e.onto = h.2 in cc) _ x k d n
