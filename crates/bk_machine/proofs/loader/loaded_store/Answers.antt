use Rattle.bk_machine.proofs.Terms.{◌≡◌, ◌+◌, ap, ◌∙◌, arith, length, segment_size}
use Rattle.bk_machine.proofs.Settings.{stack-item, stack-next, placed-next, length-placed, store-whole}
use Rattle.bk_machine.proofs.loader.loaded_store.Goals as goal

pub place-requires-clause-room : goal.place-requires-clause-room
place-requires-clause-room c =
    let store = c.loop-segment.store in
    let least = stack-item (length store.items) c.args.segments.now c.loop-segment.segment-index c.segment-item.result c.items.result.now
    (omega arith) c.segment-item.is c.items.ensures.value in
    omega (arith, least, c.loop-segment.invariant.rest, store.ok.0)

pub loop-segment-preserved : goal.loop-segment-preserved
loop-segment-preserved c =
    let store = c.loop-segment.store in
    let next = c.place.new.store in
    let items = c.items.result.now in
    let size : length next.items ≡ length store.items + segment_size items = ap length c.in_ok-place.ensures ∙ length-placed store.items items in
    record {
      placed = placed-next c.push_library.new.words.items store.items next.items c.args.segments.now c.loop-segment.segment-index
          c.segment-item.result items (omega arith) c.segment-item.is c.items.ensures.value c.loop-segment.invariant.placed c.in_ok-place.ensures;
      first = omega (arith, size, c.loop-segment.invariant.first);
      rest = stack-next (length store.items) (length next.items) c.args.segments.now c.loop-segment.segment-index
          c.segment-item.result items (omega arith) c.segment-item.is c.items.ensures.value size ∙ c.loop-segment.invariant.rest;
    }

pub returns-clause-store : goal.returns-clause-store
returns-clause-store c =
    let store = c.loop-segment.store in
    rw c.in_ok-reserve_exact.ensures.items
    (store-whole c.args.words c.loop-segment.segment-index c.args.segments.now c.push_library.new.words.items store.items
    c.in_ok-push_library.ensures c.loop-segment.invariant.placed (omega arith) c.loop-segment.invariant.rest).0
