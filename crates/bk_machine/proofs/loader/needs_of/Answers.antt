use Rattle.bk_machine.proofs.Terms.{arith}
use Rattle.bk_machine.proofs.Settings.{stack-item}
use Rattle.bk_machine.proofs.loader.needs_of.Goals as goal

pub returns-in_err-measure : goal.returns-in_err-measure
returns-in_err-measure c =
    let least = stack-item c.loop-segment.stack c.args.segments.now c.loop-segment.segment-index c.segment-item.result c.items.result.now
    (omega arith) c.segment-item.is c.items.ensures.value in
    rw c.from_residual.ensures (omega (arith, least, c.in_err-measure.ensures, c.loop-segment.invariant.rest))
