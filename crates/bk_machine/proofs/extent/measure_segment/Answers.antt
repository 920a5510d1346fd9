use Rattle.bk_machine.proofs.Places.{or_false, ◌||◌, sym, ap, ◌∙◌, arith, unwrap_or, drop_all, frame_of, starts}
use Rattle.bk_machine.proofs.Reaching.{stepped, part-next, all-next}
use Rattle.bk_machine.proofs.extent.measure_segment.Goals as goal

pub returns-then-measure-room : goal.returns-then-measure-room
returns-then-measure-room c =
    let now = stepped c.args.start c.args.items.now c.loop-item.item-index _ c.loop-item.measure.extent c.with-measure.result.extent
    (omega arith) c.loop-item.invariant.reached c.with-measure.ensures.extent in
    omega (arith, part-next c.args.start c.args.items.now _ c.with-measure.result.extent now)

pub returns : goal.returns
returns c =
    let measure = c.loop-item.measure in
    let invariant = c.loop-item.invariant in
    let none = drop_all c.loop-item.item-index c.args.items.now (omega arith) in (
      all-next c.args.start c.args.items.now c.loop-item.item-index measure.extent (omega arith) invariant.reached,
      invariant.room,
      sym (or_false measure.starts) ∙ ap (λ l. measure.starts || starts l) (sym none) ∙ invariant.starts_are,
      ap (λ l. unwrap_or measure.frame (frame_of l)) (sym none) ∙ invariant.frame_is,
    )
