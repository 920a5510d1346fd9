use Rattle.bk_frames.specs.Spares.{spare_of_section}
use Rattle.bk_frames.proofs.Stacks.{spared_popped, budgets_popped, popped_budgets}
use Rattle.bk_frames.proofs.top.pop.Goals as goal

pub invariant_of-frames-clause-holds : goal.invariant_of-frames-clause-holds
invariant_of-frames-clause-holds c = c.args.frames.now.holds

pub invariant_of-frames-clause-spared : goal.invariant_of-frames-clause-spared
invariant_of-frames-clause-spared c =
    let x = c.args.frames.now in
    spared_popped c.pop.result (spare_of_section x.held) x.above.items c.pop.new.self.items c.pop.ensures.items x.spared

pub invariant_of-frames-clause-ample : goal.invariant_of-frames-clause-ample
invariant_of-frames-clause-ample c =
    let x = c.args.frames.now in
    budgets_popped c.pop.result x.decls.items x.above.items c.pop.new.self.items x.budgets.items c.pop.ensures.items x.ample

pub returns-clause-budgets : goal.returns-clause-budgets
returns-clause-budgets c =
    let x = c.args.frames.now in
    popped_budgets c.pop.result x.decls.items x.above.items c.pop.new.self.items x.budgets.items c.pop.ensures.items x.ample
