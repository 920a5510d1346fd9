use Rattle.bk_frames.proofs.Terms.{◌∙◌, spare_of_section}
use Rattle.bk_frames.proofs.Stacks.{spare_top, spare_none}
use Rattle.bk_frames.proofs.spare.spare_of.Goals as goal

pub returns-in-Some-clause-spare : goal.returns-in-Some-clause-spare
returns-in-Some-clause-spare c =
    let x = c.args.frames.now in
    let is = rw c.deref.ensures.value at c.in-Some.ensures.value in
    spare_top (spare_of_section x.held) x.above.items c.in-Some.top.now is

pub returns-in-None-clause-spare : goal.returns-in-None-clause-spare
returns-in-None-clause-spare c =
    let x = c.args.frames.now in
    let is = rw c.deref.ensures.value at c.in-None.ensures.value in
    c.spare_of_section.ensures ∙ spare_none (spare_of_section x.held) x.above.items is
