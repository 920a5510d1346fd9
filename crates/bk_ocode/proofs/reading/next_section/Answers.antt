use Rattle.bk_ocode.proofs.Terms.{◌≡◌, inl, inr, ◌≢◌, ◌+◌, ◌++◌, ◌∷◌, ◌∙◌, [], List, None, false, nat_lt, arith, ltb-false, ltb-true, true, Err, append-nil, sym, ap, subst, rules, refl, OCODE_WORDS, OcodeFault, Refused, section_words, Context, context_of, misplaced, stmt_fault, part_words, Takes, GivesSection, Answers, Ended, Stmt}
use Rattle.bk_ocode.proofs.Completions.{begins_part, part_goes_on}
use Rattle.bk_ocode.proofs.CutSections.{stops_behind}
use Rattle.bk_ocode.proofs.FaultLemmas.{stops_at, placed_more, refused_at, rule_at, filled_at, end_at, words_tally, words_within}
use Rattle.bk_ocode.proofs.ReadingLemmas.{word_read, all_read, grows, Reads-more, Reads-whole, one_longer, section_here, IsSection-of, AreTyped-of, IsPartial-push, few_more}
use Rattle.bk_ocode.proofs.reading.next_section.Goals as goal

pub returns-in_default-clause-answers : goal.returns-in_default-clause-answers
returns-in_default-clause-answers g c =
    let v = c.loop-alloc.invariant in
    let stops = c.in_default.ensures.stops in
    stops_behind _ _ _ _ (g.I.ByteIn.ended c.take_word.new.input) c.loop-alloc.taken c.loop-alloc.draft.stmts.items (part_words c.loop-alloc.begun) stops.0 v.begun v.read
    (λ at. elim at [
      | inl reported ↦ let bad = (c.in_default.ensures.ended_again reported).0 in let is = c.in_default.is in cc
      | inr full ↦ absurd (omega (arith, full, stops.2, stops.3))
    ]) stops.4 stops.1
    (words_within _ c.loop-alloc.draft.stmts.items (part_words c.loop-alloc.begun) c.loop-alloc.words _ v.draft.context v.counted c.is_filled_by.ensures c.if-is_filled_by.false)
    (part_goes_on c.loop-alloc.draft.stmts.items c.loop-alloc.begun v.part v.placed)

pub returns-then-not-found-clause-answers : goal.returns-then-not-found-clause-answers
returns-then-not-found-clause-answers g c =
    let v = c.loop-alloc.invariant in
    let all = all_read _ _ _ _ _ c.loop-alloc.taken c.take_word.new.taken _ v.read (rw c.if-not-found.true at c.in-Ok.ensures.gives) c.in-Ok.ensures.within c.in-Ok.ensures.ended_there in
    end_at _ _ _ c.take_word.new.taken c.len-then-not-found.result c.loop-alloc.words c.loop-alloc.draft.stmts.items (part_words c.loop-alloc.begun) c.at_end.result v.begun c.len-then-not-found.ensures v.counted
    c.at_end.ensures.nothing c.at_end.ensures.cut (words_within _ c.loop-alloc.draft.stmts.items (part_words c.loop-alloc.begun) c.loop-alloc.words _ v.draft.context v.counted c.is_filled_by.ensures c.if-is_filled_by.false) (part_goes_on c.loop-alloc.draft.stmts.items c.loop-alloc.begun v.part v.placed) all

pub returns-then-is_filled_by-clause-answers : goal.returns-then-is_filled_by-clause-answers
returns-then-is_filled_by-clause-answers g c =
    let v = c.loop-alloc.invariant in
    let filled : nat_lt OCODE_WORDS (c.loop-alloc.draft.words + c.loop-alloc.words) ≡ true = sym c.is_filled_by.ensures ∙ c.if-is_filled_by.true in
    let over = ltb-true OCODE_WORDS (c.loop-alloc.draft.words + c.loop-alloc.words) filled in
    subst (λ (r : Refused OcodeFault). Answers (Err r) (g.I.ByteIn.left c.args.input.now) (g.I.ByteIn.left c.loop-alloc.input) (g.I.ByteIn.ended c.loop-alloc.input)) (sym c.fault_after.ensures)
    (filled_at _ _ _ c.loop-alloc.taken (c.len.result + 1) c.loop-alloc.draft.words c.loop-alloc.words c.loop-alloc.draft.stmts.items (part_words c.loop-alloc.begun) v.begun (ap (λ n. n + 1) c.len.ensures)
    (words_tally _ c.loop-alloc.draft.stmts.items v.draft.context) v.counted (omega (arith, over, v.low)) (omega (arith, over, v.draft.words_fit)) (begins_part c.loop-alloc.draft.stmts.items c.loop-alloc.begun v.part v.placed) v.read)

pub returns-in-Err-clause-answers : goal.returns-in-Err-clause-answers
returns-in-Err-clause-answers g c =
    let v = c.loop-alloc.invariant in
    let r = word_read _ _ _ _ _ c.loop-alloc.taken c.take_word.new.taken _ c.take_word.new.held v.read (λ reported. let h = (c.in-Ok.ensures.ended_again reported).0 in search rules) (rw c.if-not-found.false at c.in-Ok.ensures.gives) c.in-Ok.ensures.within in
    subst (λ (x : Refused OcodeFault). Answers (Err x) (g.I.ByteIn.left c.args.input.now) (g.I.ByteIn.left c.take_word.new.input) (g.I.ByteIn.ended c.take_word.new.input)) (sym c.refused.ensures.reported)
    (refused_at _ _ _ c.take_word.new.taken c.len-in-Err.result c.loop-alloc.draft.stmts.items c.loop-alloc.begun r.0 c.in-Err.unfit v.begun c.len-in-Err.ensures r.2
    (words_within _ c.loop-alloc.draft.stmts.items (part_words c.loop-alloc.begun) c.loop-alloc.words _ v.draft.context v.counted c.is_filled_by.ensures c.if-is_filled_by.false)
    (part_goes_on c.loop-alloc.draft.stmts.items c.loop-alloc.begun v.part v.placed) (λ is. let number = c.in-Err.ensures.number is in (number.0, number.1 r.0 r.1))
    (λ is. let bad = c.in-Err.ensures.bad is in (bad.0, λ s begins. ap (λ (k : Context). misplaced k s) (sym v.draft.context) ∙ bad.1 r.0 r.1 s begins)))

pub returns-in-Some-clause-answers : goal.returns-in-Some-clause-answers
returns-in-Some-clause-answers g c =
    let v = c.loop-alloc.invariant in
    let part = part_words c.loop-alloc.begun in
    let stmts = c.loop-alloc.draft.stmts.items in
    let s = c.in-Ok-Done.stmt in
    let r = word_read _ _ _ _ _ c.loop-alloc.taken c.take_word.new.taken _ c.take_word.new.held v.read (λ reported. let h = (c.in-Ok.ensures.ended_again reported).0 in search rules) (rw c.if-not-found.false at c.in-Ok.ensures.gives) c.in-Ok.ensures.within in
    let step = rw c.in-Ok-Done.field-0-is at (c.in-Ok-Done.ensures.step r.0 r.1) in
    let placed = placed_more (context_of stmts) c.loop-alloc.begun (part ++ r.0 ∷ []) r.0 refl v.placed
    (λ fresh t begins. ap (λ (k : Context). misplaced k t) (sym v.draft.context) ∙ c.in-Ok-Done.ensures.placed fresh r.0 r.1 t begins) s [] (step.1 ∙ sym (append-nil (part ++ r.0 ∷ []))) in
    subst (λ (x : Refused OcodeFault). Answers (Err x) (g.I.ByteIn.left c.args.input.now) (g.I.ByteIn.left c.take_word.new.input) (g.I.ByteIn.ended c.take_word.new.input)) (sym c.fault_after-in-Some.ensures)
    (rule_at _ _ _ c.take_word.new.taken (c.len-in-Some.result + 1) c.in-Some.kind stmts part r.0 s v.begun (ap (λ n. n + 1) c.len-in-Some.ensures) r.2 step.0 step.1
    (words_within _ c.loop-alloc.draft.stmts.items (part_words c.loop-alloc.begun) c.loop-alloc.words _ v.draft.context v.counted c.is_filled_by.ensures c.if-is_filled_by.false) placed
    (sym c.fault_of.ensures ∙ c.in-Some.is))

pub fault_of-requires-clause-words : goal.fault_of-requires-clause-words
fault_of-requires-clause-words g c =
    let v = c.loop-alloc.invariant in
    let r = word_read _ _ _ _ _ c.loop-alloc.taken c.take_word.new.taken _ c.take_word.new.held v.read (λ reported. let h = (c.in-Ok.ensures.ended_again reported).0 in search rules) (rw c.if-not-found.false at c.in-Ok.ensures.gives) c.in-Ok.ensures.within in
    let step = rw c.in-Ok-Done.field-0-is at (c.in-Ok-Done.ensures.step r.0 r.1) in
    one_longer (part_words c.loop-alloc.begun) _ r.0 c.loop-alloc.words v.counted step.1

pub add-requires-clause-words : goal.add-requires-clause-words
add-requires-clause-words g c =
    let v = c.loop-alloc.invariant in
    let r = word_read _ _ _ _ _ c.loop-alloc.taken c.take_word.new.taken _ c.take_word.new.held v.read (λ reported. let h = (c.in-Ok.ensures.ended_again reported).0 in search rules) (rw c.if-not-found.false at c.in-Ok.ensures.gives) c.in-Ok.ensures.within in
    let step = rw c.in-Ok-Done.field-0-is at (c.in-Ok-Done.ensures.step r.0 r.1) in
    one_longer (part_words c.loop-alloc.begun) _ r.0 c.loop-alloc.words v.counted step.1

pub loop-alloc-preserved-in-Ok-More : goal.loop-alloc-preserved-in-Ok-More
loop-alloc-preserved-in-Ok-More g c =
    let v = c.loop-alloc.invariant in
    let part = part_words c.loop-alloc.begun in
    let comes = rw c.if-not-found.false at c.in-Ok.ensures.gives in
    let r = word_read _ _ _ _ _ c.loop-alloc.taken c.take_word.new.taken _ c.take_word.new.held v.read (λ reported. let h = (c.in-Ok.ensures.ended_again reported).0 in search rules) comes c.in-Ok.ensures.within in
    let step = rw c.in-Ok-More.field-0-is at (c.in-Ok-More.ensures.step r.0 r.1) in
    let unfilled : nat_lt OCODE_WORDS (c.loop-alloc.draft.words + c.loop-alloc.words) ≡ false = sym c.is_filled_by.ensures ∙ c.if-is_filled_by.false in
    record {
      read = Reads-more _ _ _ c.take_word.new.taken (section_words c.loop-alloc.draft.stmts.items) part _ r.0 step.1 r.2;
      draft = v.draft;
      begun = v.begun;
      part = step.0;
      placed = λ s rest some begins. placed_more (context_of c.loop-alloc.draft.stmts.items) c.loop-alloc.begun _ r.0 step.1 v.placed
          (λ fresh t is. ap (λ (k : Context). misplaced k t) (sym v.draft.context) ∙ c.in-Ok-More.ensures.placed fresh r.0 r.1 t is) s rest begins;
      counted = one_longer part _ r.0 c.loop-alloc.words v.counted step.1;
      low = omega (arith, ltb-false OCODE_WORDS _ unfilled);
      few = v.few;
      some = λ _. omega (arith, grows _ _ c.loop-alloc.taken c.take_word.new.taken _ c.take_word.new.held comes);
      clear = λ _. c.in-Ok.ensures.clear;
      over = λ was. let stays = v.over was in search rules;
      again = λ was. let stays = v.again was in search rules;
    }

pub into_section-requires-clause-section : goal.into_section-requires-clause-section
into_section-requires-clause-section g c =
    let v = c.loop-alloc.invariant in
    let part = part_words c.loop-alloc.begun in
    let r = word_read _ _ _ _ _ c.loop-alloc.taken c.take_word.new.taken _ c.take_word.new.held v.read (λ reported. let h = (c.in-Ok.ensures.ended_again reported).0 in search rules) (rw c.if-not-found.false at c.in-Ok.ensures.gives) c.in-Ok.ensures.within in
    let step = rw c.in-Ok-Done.field-0-is at (c.in-Ok-Done.ensures.step r.0 r.1) in
    let ended : (context_of c.add.new.self.stmts.items).position ≡ Ended =
    ap (λ (k : Context). k.position) (sym c.in-Ok-add.ensures.draft.context) ∙ c.is_whole.ensures.whole c.if-is_whole.true in
    IsSection-of c.loop-alloc.draft.stmts.items c.add.new.self.stmts.items c.in-Ok-Done.stmt c.in-Ok-add.ensures.added v.begun step.0 (sym c.in_default-fault_of.ensures) ended

pub into_section-requires-clause-typed : goal.into_section-requires-clause-typed
into_section-requires-clause-typed g c =
    let v = c.loop-alloc.invariant in
    let r = word_read _ _ _ _ _ c.loop-alloc.taken c.take_word.new.taken _ c.take_word.new.held v.read (λ reported. let h = (c.in-Ok.ensures.ended_again reported).0 in search rules) (rw c.if-not-found.false at c.in-Ok.ensures.gives) c.in-Ok.ensures.within in
    let step = rw c.in-Ok-Done.field-0-is at (c.in-Ok-Done.ensures.step r.0 r.1) in
    AreTyped-of c.loop-alloc.draft.stmts.items c.add.new.self.stmts.items c.in-Ok-Done.stmt c.in-Ok-add.ensures.added v.begun step.0

pub returns-then-is_whole-clause-answers : goal.returns-then-is_whole-clause-answers
returns-then-is_whole-clause-answers g c =
    let v = c.loop-alloc.invariant in
    let part = part_words c.loop-alloc.begun in
    let r = word_read _ _ _ _ _ c.loop-alloc.taken c.take_word.new.taken _ c.take_word.new.held v.read (λ reported. let h = (c.in-Ok.ensures.ended_again reported).0 in search rules) (rw c.if-not-found.false at c.in-Ok.ensures.gives) c.in-Ok.ensures.within in
    let step = rw c.in-Ok-Done.field-0-is at (c.in-Ok-Done.ensures.step r.0 r.1) in
    let ended : (context_of c.add.new.self.stmts.items).position ≡ Ended =
    ap (λ (k : Context). k.position) (sym c.in-Ok-add.ensures.draft.context) ∙ c.is_whole.ensures.whole c.if-is_whole.true in
    subst (λ (l : List Stmt). Takes (g.I.ByteIn.left c.args.input.now) (g.I.ByteIn.left c.take_word.new.input) (g.I.ByteIn.ended c.take_word.new.input) (λ taken end. GivesSection taken end l)) (sym c.into_section.ensures)
    (section_here _ _ _ c.take_word.new.taken c.loop-alloc.draft.stmts.items c.add.new.self.stmts.items c.in-Ok-Done.stmt part r.0 c.in-Ok-add.ensures.added v.begun step.0 (sym c.in_default-fault_of.ensures) ended step.1 r.2)

pub loop-alloc-preserved : goal.loop-alloc-preserved
loop-alloc-preserved g c =
    let v = c.loop-alloc.invariant in
    let part = part_words c.loop-alloc.begun in
    let stmts = c.loop-alloc.draft.stmts.items in
    let all = c.add.new.self.stmts.items in
    let r = word_read _ _ _ _ _ c.loop-alloc.taken c.take_word.new.taken _ c.take_word.new.held v.read (λ reported. let h = (c.in-Ok.ensures.ended_again reported).0 in search rules) (rw c.if-not-found.false at c.in-Ok.ensures.gives) c.in-Ok.ensures.within in
    let step = rw c.in-Ok-Done.field-0-is at (c.in-Ok-Done.ensures.step r.0 r.1) in
    let none : stmt_fault stmts c.in-Ok-Done.stmt ≡ None = sym c.in_default-fault_of.ensures in
    let on : (context_of all).position ≢ Ended = λ is. c.is_whole.ensures.goes_on c.if-is_whole.false (ap (λ (k : Context). k.position) c.in-Ok-add.ensures.draft.context ∙ is) in
    record {
      read = Reads-whole _ _ _ c.take_word.new.taken stmts all c.in-Ok-Done.stmt part r.0 c.in-Ok-add.ensures.added step.1 r.2;
      draft = c.in-Ok-add.ensures.draft;
      begun = IsPartial-push stmts all c.in-Ok-Done.stmt c.in-Ok-add.ensures.added v.begun step.0 none on;
      part = tt;
      placed = λ s rest some begins. absurd (omega (arith, some));
      counted = refl;
      low = omega (arith, c.in-Ok-add.ensures.draft.words_fit);
      few = few_more stmts all c.in-Ok-Done.stmt c.in-Ok-add.ensures.added (ap (λ (k : Context). k.count) (sym v.draft.context)) none;
      some = λ z. absurd (omega (arith, z));
      clear = λ _. c.in-Ok.ensures.clear;
      over = λ was. let stays = v.over was in search rules;
      again = λ was. let stays = v.again was in search rules;
    }

pub returns-in_default-add-clause-answers : goal.returns-in_default-add-clause-answers
returns-in_default-add-clause-answers g c =
    let v = c.loop-alloc.invariant in
    let r = word_read _ _ _ _ _ c.loop-alloc.taken c.take_word.new.taken _ c.take_word.new.held v.read (λ reported. let h = (c.in-Ok.ensures.ended_again reported).0 in search rules) (rw c.if-not-found.false at c.in-Ok.ensures.gives) c.in-Ok.ensures.within in
    stops_at _ _ _ c.take_word.new.taken c.loop-alloc.draft.stmts.items (part_words c.loop-alloc.begun) r.0 v.begun r.2
    (words_within _ c.loop-alloc.draft.stmts.items (part_words c.loop-alloc.begun) c.loop-alloc.words _ v.draft.context v.counted c.is_filled_by.ensures c.if-is_filled_by.false)
    (part_goes_on c.loop-alloc.draft.stmts.items c.loop-alloc.begun v.part v.placed)
