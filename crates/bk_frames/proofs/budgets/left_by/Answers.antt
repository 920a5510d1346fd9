use Rattle.std.proofs.Common.{arith}
use Rattle.bk_frames.proofs.Ample.{above_floor, above_rise, above_nodes, leaves}
use Rattle.bk_frames.proofs.budgets.left_by.Goals as goal

pub returns-then-floor-budget : goal.returns-then-floor-budget
returns-then-floor-budget c e h = above_floor c.args.counts e c.args.budget.now c.args.following c.raised-floor.result (c.raised-floor.ensures e.floor h.3) (omega arith)

pub returns-then-rise-budget : goal.returns-then-rise-budget
returns-then-rise-budget c e h = above_rise c.args.counts e c.args.budget.now c.args.following c.raised-rise.result (c.raised-rise.ensures e.rise h.4) (omega arith)

pub returns-then-nodes-budget : goal.returns-then-nodes-budget
returns-then-nodes-budget c e h = above_nodes c.args.counts e c.args.budget.now c.args.following c.raised.result c.counted-nodes.result (c.raised.ensures e.nodes h.5) c.counted-nodes.ensures (omega arith)

pub returns : goal.returns
returns c e h = leaves c.args.counts c.args.completion.now e c.args.budget.now c.args.following c.raised-floor.result c.raised-rise.result c.raised.result c.counted-nodes.result h c.requires (c.raised-floor.ensures e.floor h.3) (c.raised-rise.ensures e.rise h.4) (c.raised.ensures e.nodes h.5) c.counted-nodes.ensures (omega arith) (omega arith) (omega arith)
