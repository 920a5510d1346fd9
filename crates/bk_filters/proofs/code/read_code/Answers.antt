use Rattle.bk_filters.proofs.Terms.{◌≡◌, ◌∙◌, List, [], ◌∷◌, ◌++◌, length, map, ap, sym, subst, rules, map-append, length-map, Item, items_of, segment_whole, part_number, intcode}
use Rattle.bk_intcode.specs.SegmentReading.{StopsAtDevice}
use Rattle.bk_filters.proofs.CodeLemmas.{Front, Front-push, Front-refused, Front-stops, Front-whole}
use Rattle.bk_filters.proofs.code.read_code.Goals as goal

pub loop-segment-preserved : goal.loop-segment-preserved
loop-segment-preserved g c =
    let read = c.in-Ok-Some.segment in
    let all : map items_of c.push.new.self.items ≡ map items_of c.loop-segment.list.items ++ items_of read ∷ [] =
    ap (map items_of) c.in-Ok.ensures.items ∙ map-append items_of c.loop-segment.list.items (read ∷ []) in
    subst (λ (l : List (List Item)). Front intcode l (g.C.ByteIn.left c.args.code.now) (g.C.ByteIn.left c.read_segment.new.input) (g.C.ByteIn.ended c.read_segment.new.input)) (sym all)
    (Front-push intcode _ _ _ _ _ _ c.loop-segment.invariant (items_of read) (segment_whole read) (λ over. let bad = (c.in-Ok-Some.ensures.ended_again over).0 in let other = c.in-Ok-Some.field-0-is in cc) (rw c.in-Ok-Some.field-0-is at c.in-Ok-Some.ensures.applies))

pub returns-in-Ok-None-clause-read : goal.returns-in-Ok-None-clause-read
returns-in-Ok-None-clause-read g c =
    Front-whole intcode _ _ _ _ _ _ c.loop-segment.invariant (λ over. (g.met.C.ByteIn.nothing_after c.loop-segment.code over).0) (λ over. (c.in-Ok-None.ensures.ended_again over).1) (rw c.in-Ok-None.field-0-is at c.in-Ok-None.ensures.applies)

pub returns-in-Err-Fault-clause-refused : goal.returns-in-Err-Fault-clause-refused
returns-in-Err-Fault-clause-refused g c =
    let reported = c.in-Err-Fault.fault in
    let applies = Front-refused intcode _ _ _ _ _ _ c.loop-segment.invariant reported.item reported.kind (λ over. let bad = (c.in-Err-Fault.ensures.ended_again over).0 in cc) (rw c.in-Err-Fault.field-0-is at c.in-Err-Fault.ensures.applies) in
    let len : c.len.result ≡ length c.loop-segment.list.items = search rules in
    let number : c.number_after.result ≡ part_number (length (map items_of c.loop-segment.list.items)) =
    c.number_after.ensures ∙ ap part_number (len ∙ sym (length-map c.loop-segment.list.items items_of)) in
    rw (c.in-Err-Fault.field-0-is, number) applies

pub returns-in-Err-Device-clause-refused : goal.returns-in-Err-Device-clause-refused
returns-in-Err-Device-clause-refused g c =
    Front-stops intcode _ _ _ _ _ (g.C.ByteIn.ended c.read_segment.new.input) c.loop-segment.invariant StopsAtDevice (λ over. let bad = (c.in-Err-Device.ensures.ended_again over).0 in cc) (rw c.in-Err-Device.field-0-is at c.in-Err-Device.ensures.answers)
