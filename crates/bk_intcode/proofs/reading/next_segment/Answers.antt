use Rattle.bk_intcode.proofs.Terms.{◌≡◌, ◌+◌, ◌++◌, ◌∷◌, [], List, length, Err, sym, subst, ap, ◌∙◌, arith, rules, None, length-append, IntcodeFault, Refused, Item, End, item_fault, GivesSegment, Answers, Takes}
use Rattle.bk_intcode.proofs.PartialLemmas.{IsSegment-of, no_fault-few}
use Rattle.bk_intcode.proofs.CutSegments.{stops_behind}
use Rattle.bk_intcode.proofs.ReadingLemmas.{nothing_left, cut, word_fault, item_fault_here, segment_here, cut_after, Read-push, IsPartial-more, stops_here}
use Rattle.bk_intcode.proofs.reading.next_segment.Goals as goal

pub returns-in_default-clause-answers : goal.returns-in_default-clause-answers
returns-in_default-clause-answers g c =
    let stops = c.in_default.ensures.stops in
    stops_behind _ _ _ c.loop-found.taken (g.I.ByteIn.ended c.next_item.new.input) c.loop-found.draft.items.items stops.0 c.loop-found.invariant.taken stops.4 stops.1 c.loop-found.invariant.begun

pub returns-then-count-eq0-clause-answers : goal.returns-then-count-eq0-clause-answers
returns-then-count-eq0-clause-answers g c =
    nothing_left _ _ _ c.loop-found.taken c.next_item.new.taken _ c.loop-found.draft.items.items c.loop-found.invariant.taken (rw c.in-Nothing.is at c.in-Ok.ensures.gives)
    (sym c.len-count.ensures ∙ c.if-count-eq0.true)

pub returns-in-Nothing-clause-answers : goal.returns-in-Nothing-clause-answers
returns-in-Nothing-clause-answers g c =
    subst (λ (r : Refused IntcodeFault). Answers (Err r) (g.I.ByteIn.left c.args.input.now) (g.I.ByteIn.left c.next_item.new.input) (g.I.ByteIn.ended c.next_item.new.input)) (sym c.fault_after.ensures)
    (cut _ _ _ c.loop-found.taken c.next_item.new.taken (c.len-count.result + 1) _ c.loop-found.draft.items.items c.loop-found.invariant.taken (rw c.in-Nothing.is at c.in-Ok.ensures.gives)
    c.loop-found.invariant.begun (omega (arith, c.len-count.ensures, c.if-count-eq0.false)) (ap (λ n. n + 1) c.len-count.ensures))

pub returns-in-Fault-clause-answers : goal.returns-in-Fault-clause-answers
returns-in-Fault-clause-answers g c =
    subst (λ (r : Refused IntcodeFault). Answers (Err r) (g.I.ByteIn.left c.args.input.now) (g.I.ByteIn.left c.next_item.new.input) (g.I.ByteIn.ended c.next_item.new.input)) (sym c.fault_after-in-Fault.ensures)
    (word_fault _ _ _ c.loop-found.taken c.next_item.new.taken (c.len.result + 1) _ c.loop-found.draft.items.items c.in-Fault.kind c.loop-found.invariant.taken (rw c.in-Fault.is at c.in-Ok.ensures.gives)
    c.loop-found.invariant.begun (ap (λ n. n + 1) c.len.ensures))

pub returns-in-Some-clause-answers : goal.returns-in-Some-clause-answers
returns-in-Some-clause-answers g c =
    subst (λ (r : Refused IntcodeFault). Answers (Err r) (g.I.ByteIn.left c.args.input.now) (g.I.ByteIn.left c.next_item.new.input) (g.I.ByteIn.ended c.next_item.new.input)) (sym c.fault_after-in-Some.ensures)
    (item_fault_here _ _ _ c.loop-found.taken c.next_item.new.taken (c.len-in-Some.result + 1) _ c.loop-found.draft.items.items c.in-Item.item c.in-Item.last c.in-Some.kind c.loop-found.invariant.taken (rw c.in-Item.is at c.in-Ok.ensures.gives)
    c.loop-found.invariant.begun (ap (λ n. n + 1) c.len-in-Some.ensures) (sym c.fault_of.ensures ∙ c.in-Some.is))

pub into_segment-requires : goal.into_segment-requires
into_segment-requires g c =
    let items = c.loop-found.draft.items.items in
    let all : c.add.new.self.items.items ≡ items ++ End ∷ [] = c.in-Ok-add.ensures.added ∙ ap (λ (i : Item). items ++ i ∷ []) c.in-End.is in
    let faultless : item_fault items End ≡ None = ap (λ (i : Item). item_fault items i) (sym c.in-End.is) ∙ sym c.in_default-fault_of.ensures in
    IsSegment-of items c.add.new.self.items.items all c.loop-found.invariant.begun faultless

pub returns-in-End-clause-answers : goal.returns-in-End-clause-answers
returns-in-End-clause-answers g c =
    let items = c.loop-found.draft.items.items in
    let all : c.add.new.self.items.items ≡ items ++ End ∷ [] = c.in-Ok-add.ensures.added ∙ ap (λ (i : Item). items ++ i ∷ []) c.in-End.is in
    let faultless : item_fault items End ≡ None = ap (λ (i : Item). item_fault items i) (sym c.in-End.is) ∙ sym c.in_default-fault_of.ensures in
    let comes = rw (c.in-Item.is, c.in-End.is) at c.in-Ok.ensures.gives in
    subst (λ (l : List Item). Takes (g.I.ByteIn.left c.args.input.now) (g.I.ByteIn.left c.next_item.new.input) (g.I.ByteIn.ended c.next_item.new.input) (λ taken end. GivesSegment taken end l)) (sym c.into_segment.ensures)
    (segment_here _ _ _ c.loop-found.taken c.next_item.new.taken _ items c.add.new.self.items.items c.in-Item.last c.loop-found.invariant.taken comes c.loop-found.invariant.begun faultless all)

pub returns-then-last-clause-answers : goal.returns-then-last-clause-answers
returns-then-last-clause-answers g c =
    subst (λ (r : Refused IntcodeFault). Answers (Err r) (g.I.ByteIn.left c.args.input.now) (g.I.ByteIn.left c.next_item.new.input) (g.I.ByteIn.ended c.next_item.new.input)) (sym c.fault_after-then-last.ensures)
    (cut_after _ _ _ c.loop-found.taken c.next_item.new.taken (c.len-then-last.result + 1) _ c.loop-found.draft.items.items c.add.new.self.items.items c.in-Item.item c.in-Item.last c.if-last.true
    c.loop-found.invariant.taken (rw c.in-Item.is at c.in-Ok.ensures.gives) c.loop-found.invariant.begun (sym c.in_default-fault_of.ensures) c.in_default-item.not-End c.in-Ok-add.ensures.added
    (ap (λ n. n + 1) c.len-then-last.ensures))

pub loop-found-preserved : goal.loop-found-preserved
loop-found-preserved g c =
    let items = c.loop-found.draft.items.items in
    let all = c.add.new.self.items.items in
    let comes = rw c.in-Item.is at c.in-Ok.ensures.gives in
    let faultless : item_fault items c.in-Item.item ≡ None = sym c.in_default-fault_of.ensures in
    record {
      taken = Read-push _ _ _ c.loop-found.taken c.next_item.new.taken _ items all c.in-Item.item c.in-Item.last c.if-last.false c.loop-found.invariant.taken comes c.in-Ok-add.ensures.added;
      draft = c.in-Ok-add.ensures.draft;
      begun = IsPartial-more _ _ c.loop-found.taken c.next_item.new.taken _ items all c.in-Item.item c.in-Item.last comes c.loop-found.invariant.begun faultless c.in_default-item.not-End c.in-Ok-add.ensures.added;
      few = omega (arith, no_fault-few items c.in-Item.item faultless, ap (λ (l : List Item). length l) c.in-Ok-add.ensures.added, length-append items (c.in-Item.item ∷ []));
      clear = λ _. c.in-Ok.ensures.clear;
      over = λ was. let stays = c.loop-found.invariant.over was in search rules;
      again = λ was. let stays = c.loop-found.invariant.again was in search rules;
    }

pub returns-in_default-add-clause-answers : goal.returns-in_default-add-clause-answers
returns-in_default-add-clause-answers g c =
    stops_here _ _ _ c.loop-found.taken c.next_item.new.taken _ c.loop-found.draft.items.items c.in-Item.item c.in-Item.last
    c.loop-found.invariant.taken (rw c.in-Item.is at c.in-Ok.ensures.gives) c.loop-found.invariant.begun
