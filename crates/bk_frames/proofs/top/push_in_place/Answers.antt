use Rattle.bk_frames.proofs.Terms.{subst, Size, spare_of_section, Leaves}
use Rattle.bk_frames.proofs.Stacks.{spared_pushed, budgets_pushed}
use Rattle.bk_frames.proofs.top.push_in_place.Goals as goal

pub invariant_of-frames-clause-spared : goal.invariant_of-frames-clause-spared
invariant_of-frames-clause-spared c =
    let x = c.args.frames.now in
    let P : Size → Type 0 = λ z. Leaves z c.args.unfinished c.spare_above-spare.result in
    spared_pushed _ (spare_of_section x.held) x.above.items _ _ c.push_frame.ensures.items x.spared (subst P c.spare_of.ensures.spare c.spare_above-spare.ensures.leaves)

pub invariant_of-frames-clause-ample : goal.invariant_of-frames-clause-ample
invariant_of-frames-clause-ample c =
    let x = c.args.frames.now in
    budgets_pushed _ x.decls.items x.above.items _ _ x.budgets.items c.push_frame.ensures.items x.ample c.requires.budgets
