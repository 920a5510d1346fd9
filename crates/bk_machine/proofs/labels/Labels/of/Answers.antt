use Rattle.bk_machine.proofs.Reaching.{stepped, part-next, all-next, reached-size}
use Rattle.bk_machine.proofs.Places.{table-set, table-kept, table-all, cond_le, ◌≡◌, ◌+◌, ◌≤◌, eqb, ap, ◌∙◌, arith, take, unwrap_or, get, nat_eq, STORE_MOST, segment_size}
use Rattle.bk_machine.proofs.labels.Labels.of.Goals as goal
use Rattle.bk_machine.proofs.labels.Labels.of.Goals.{in-SetLabel+in_ok-set_number, in_default}

pub with-extent-requires-clause-room : goal.with-extent-requires-clause-room
with-extent-requires-clause-room c = omega (arith, part-next c.args.start c.args.items.now _ c.loop-item.extent c.loop-item.invariant.reached)

pub loop-item-preserved : goal.loop-item-preserved
loop-item-preserved c =
    let items = c.args.items.now in
    let i = c.loop-item.item-index in
    let next = stepped c.args.start items i _ c.loop-item.extent c.with-extent.result (omega arith) c.loop-item.invariant.reached c.with-extent.ensures.value in
    let inside : c.loop-item.extent.next ≤ STORE_MOST = omega (arith, part-next c.args.start items i c.loop-item.extent c.loop-item.invariant.reached) in
    elim c.match-item.branch [
      | in-SetLabel+in_ok-set_number w ↦ record {
        reached = next;
        part = c.with-extent.ensures.part;
        table = rw w.numbers-is (λ label end.
            table-set c.args.start end i w.in-SetLabel.label c.loop-item.extent.next items (λ l. unwrap_or (get nat_eq c.loop-item.numbers l) end) (λ l. unwrap_or (get nat_eq w.set_number.new.numbers l) end) _
            c.requires.whole (omega arith) w.in-SetLabel.is (ap (λ e. e.next) c.loop-item.invariant.reached ∙ reached-size c.args.start (take i items))
            (λ l. c.loop-item.invariant.table l end) (λ l. w.in_ok-set_number.ensures l end) label);
        within = rw w.numbers-is (λ l end most. rw (w.in_ok-set_number.ensures l end) (cond_le (eqb l w.in-SetLabel.label) _ _ STORE_MOST inside (c.loop-item.invariant.within l end most)));
      }
      | in_default w ↦ record {
        reached = next;
        part = c.with-extent.ensures.part;
        table = rw w.numbers-is (λ label end.
            table-kept c.args.start end i items (λ l. unwrap_or (get nat_eq c.loop-item.numbers l) end) _ (omega arith) w.in_default.not-SetLabel (λ l. c.loop-item.invariant.table l end) label);
        within = rw w.numbers-is c.loop-item.invariant.within;
      }
    ]

pub invariant_of-result : goal.invariant_of-result
invariant_of-result c =
    let end = all-next c.args.start c.args.items.now c.loop-item.item-index c.loop-item.extent (omega arith) c.loop-item.invariant.reached in
    record { within = λ label. c.loop-item.invariant.within label c.loop-item.extent.next (omega arith) }

pub returns : goal.returns
returns c =
    let end : c.loop-item.extent.next ≡ c.args.start + segment_size c.args.items.now =
    all-next c.args.start c.args.items.now c.loop-item.item-index c.loop-item.extent (omega arith) c.loop-item.invariant.reached in
    λ label. c.loop-item.invariant.table label c.loop-item.extent.next ∙ table-all c.args.start c.loop-item.extent.next c.loop-item.item-index c.args.items.now (omega arith) end label
