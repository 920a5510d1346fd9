use Rattle.std.proofs.Common.{arith}
use Rattle.bk_frames.proofs.Ample.{by_completion_more, by_completion_all}
use Rattle.bk_frames.proofs.budgets.add_completion.Goals as goal

pub loop-budget-preserved : goal.loop-budget-preserved
loop-budget-preserved c e h = by_completion_more c.args.counts e c.args.below.now c.loop-budget.budget-index c.budget-item.result (omega arith) c.budget-item.is c.args.budgets.now.items c.add_left.new.budgets.items c.loop-budget.budgets.items (c.loop-budget.invariant e h) (c.in_ok-add_left.ensures e h)

pub returns : goal.returns
returns c e h = by_completion_all c.args.counts e c.args.below.now c.loop-budget.budget-index (omega arith) c.args.budgets.now.items c.loop-budget.budgets.items (c.loop-budget.invariant e h)
