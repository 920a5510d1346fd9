use Rattle.bk_filters.proofs.Terms.{inl, inr, ℕ, List, ◌≡◌, ◌≤◌, ◌<◌, ◌⊎◌, [], ◌∷◌, ◌++◌, ◌∙◌, Ok, refl, sym, ap, arith, append-nil, length-append, subst, rules, cases_lt, Consumes, Consumes-nothing, Consumes-trans, INPUT_BYTES, SectionBytes, cut_after, lexed, more_undecided}
use Rattle.bk_lex.specs.Cutting.{Means}
use Rattle.bk_lex.specs.declared.cutter.Cut.TheVariants.{End, More}
use Rattle.bk_filters.proofs.ReadingLemmas.{delivered_more, delivered_held, held_line, held_longer, few_more, goes_at_start, nothing_asked}
use Rattle.bk_filters.proofs.reading.read_source_section.Goals as goal

pub loop-init : goal.loop-init
loop-init g c =
    let bytes : c.in-Ok.lexer.bytes ≡ [] = ap (λ (v : SectionBytes). v.bytes) c.in-Ok.ensures in
    let line = ap (λ (v : SectionBytes). v.from) c.in-Ok.ensures in
    rw bytes record {
      delivered = Consumes-nothing _;
      line = line;
      goes_on = goes_at_start;
      asked = nothing_asked;
      taken = omega arith;
      counted = omega arith;
      within = omega arith;
      most = omega arith;
      readable = readable_at_first _;
    }
  where
    readable_at_first : (faults : ℕ) → (1 ≤ 0) ⊎ (faults ≡ 0) → faults ≡ 0
    readable_at_first faults (inl one) = absurd (omega (arith, one))
    readable_at_first faults (inr none) = none

pub returns-in-Ok-End-clause-read : goal.returns-in-Ok-End-clause-read
returns-in-Ok-End-clause-read g c =
    let v = c.loop.invariant in
    let all = delivered_held c.loop.lexer.bytes _ _ _ c.loop.taken c.args.taken.now _ c.loop.lexer.from _ v.delivered v.asked v.taken v.within c.in-Ok-End.ensures.takes in
    let settled = rw c.in-Ok-End.field-0-is at c.in-Ok-End.ensures.means in
    (all, λ short line rest follows. settled line rest)

pub returns-then-taken-eq-INPUT_BYTES-clause-read : goal.returns-then-taken-eq-INPUT_BYTES-clause-read
returns-then-taken-eq-INPUT_BYTES-clause-read g c =
    let v = c.loop.invariant in
    let all = delivered_held c.loop.lexer.bytes _ _ _ c.loop.taken c.args.taken.now _ c.loop.lexer.from _ v.delivered v.asked v.taken v.within c.in-Ok-More.ensures.takes in
    (all, λ short line rest follows. absurd (omega (arith, short, c.if-taken-eq-INPUT_BYTES.true)))

pub returns-in-Ok-None-clause-read : goal.returns-in-Ok-None-clause-read
returns-in-Ok-None-clause-read g c =
    let v = c.loop.invariant in
    let all = delivered_held c.loop.lexer.bytes _ _ _ c.loop.taken c.args.taken.now _ c.loop.lexer.from _ v.delivered v.asked v.taken v.within c.in-Ok-More.ensures.takes in
    let none = rw c.in-Ok-None.field-0-is at c.in-Ok-None.ensures.delivers in
    let told = rw c.in-Ok-None.field-0-is at c.in-Ok-None.ensures.end in (
      record {
        delivered = subst (λ (xs : List ℕ). Consumes (g.C.ByteIn.left c.args.source.now) (g.C.ByteIn.left c.next.new.self) xs) (append-nil c.take_held.new.lexer.bytes) (Consumes-trans _ _ _ c.take_held.new.lexer.bytes [] all.delivered none);
        asked = all.asked;
        counted = all.counted;
        few = all.few;
      },
      λ short line rest follows.
          ap (λ (xs : List ℕ). lexed (c.take_held.new.lexer.bytes ++ xs) line) (follows told) ∙ ap (λ (xs : List ℕ). lexed xs line) (append-nil c.take_held.new.lexer.bytes),
    )

pub returns-then-taken-eq-INPUT_BYTES-clause-failures : goal.returns-then-taken-eq-INPUT_BYTES-clause-failures
returns-then-taken-eq-INPUT_BYTES-clause-failures g c = λ why. by_size (cases_lt c.loop.taken c.take_held.new.taken) why
  where
    by_size : (c.loop.taken < c.take_held.new.taken) ⊎ (c.take_held.new.taken ≤ c.loop.taken) → (c.args.taken.now < INPUT_BYTES) ⊎ (g.C.ByteIn.faults c.args.source.now ≡ 0) → g.C.ByteIn.faults c.take_held.new.source ≡ 0
    by_size (inl more) why = c.in-Ok-More.ensures.some more
    by_size (inr same) (inl few) =
        c.in-Ok-More.ensures.going (ap Ok c.in-Ok-More.field-0-is) ∙ c.loop.invariant.readable (inl (omega (arith, same, few, c.if-taken-eq-INPUT_BYTES.true, c.loop.invariant.taken)))
    by_size (inr same) (inr none) =
        c.in-Ok-More.ensures.going (ap Ok c.in-Ok-More.field-0-is) ∙ c.loop.invariant.readable (inr none)

pub returns-in-Err-next-clause-fault : goal.returns-in-Err-next-clause-fault
returns-in-Err-next-clause-fault g c =
    let v = c.loop.invariant in
    let all = delivered_held c.loop.lexer.bytes _ _ _ c.loop.taken c.args.taken.now _ c.loop.lexer.from _ v.delivered v.asked v.taken v.within c.in-Ok-More.ensures.takes in
    let goes = sym c.in-Ok-More.ensures.says ∙ c.in-Ok-More.field-0-is in
    (c.take_held.new.lexer.bytes, record { delivered = search (all.delivered, c.in-Err-next.ensures.keeps, rules); asked = all.asked; counted = all.counted; few = all.few }, inr (refl, more_undecided c.take_held.new.lexer.bytes goes))

pub returns-in-Ok-End-step-clause-read : goal.returns-in-Ok-End-step-clause-read
returns-in-Ok-End-step-clause-read g c =
    let v = c.loop.invariant in
    let all = delivered_held c.loop.lexer.bytes _ _ _ c.loop.taken c.args.taken.now _ c.loop.lexer.from _ v.delivered v.asked v.taken v.within c.in-Ok-More.ensures.takes in
    let goes = sym c.in-Ok-More.ensures.says ∙ c.in-Ok-More.field-0-is in
    let one = rw c.in-Ok-Some.field-0-is at c.in-Ok-Some.ensures.delivers in
    let more = delivered_more c.take_held.new.lexer.bytes c.in-Ok-Some.byte _ _ _ c.take_held.new.taken c.args.taken.now all.delivered one goes all.asked all.counted (few_more c.take_held.new.lexer.bytes goes) in
    let bytes : c.step.new.self.bytes ≡ c.take_held.new.lexer.bytes ++ c.in-Ok-Some.byte ∷ [] = ap (λ (w : SectionBytes). w.bytes) (c.in-Ok-End-step.ensures.takes goes) in
    let settled = subst (λ (xs : List ℕ). Means End xs) bytes (rw c.in-Ok-End-step.field-0-is at c.in-Ok-End-step.ensures.means goes) in
    rw bytes (more, λ short line rest follows. settled line rest)

pub returns-in-Err-step-clause-fault : goal.returns-in-Err-step-clause-fault
returns-in-Err-step-clause-fault g c =
    let v = c.loop.invariant in
    let all = delivered_held c.loop.lexer.bytes _ _ _ c.loop.taken c.args.taken.now _ c.loop.lexer.from _ v.delivered v.asked v.taken v.within c.in-Ok-More.ensures.takes in
    let goes = sym c.in-Ok-More.ensures.says ∙ c.in-Ok-More.field-0-is in
    let one = rw c.in-Ok-Some.field-0-is at c.in-Ok-Some.ensures.delivers in
    (_, delivered_more c.take_held.new.lexer.bytes c.in-Ok-Some.byte _ _ _ c.take_held.new.taken c.args.taken.now all.delivered one goes all.asked all.counted (few_more c.take_held.new.lexer.bytes goes), inl refl)

pub loop-preserved : goal.loop-preserved
loop-preserved g c =
    let v = c.loop.invariant in
    let h = c.in-Ok-More.ensures.takes in
    let all = delivered_held c.loop.lexer.bytes _ _ _ c.loop.taken c.args.taken.now _ c.loop.lexer.from _ v.delivered v.asked v.taken v.within h in
    let longer = held_longer c.loop.lexer.bytes _ _ _ c.loop.taken c.args.taken.now _ c.loop.lexer.from _ v.delivered v.asked v.taken v.within h in
    let here = sym c.in-Ok-More.ensures.says ∙ c.in-Ok-More.field-0-is in
    let one = rw c.in-Ok-Some.field-0-is at c.in-Ok-Some.ensures.delivers in
    let more = delivered_more c.take_held.new.lexer.bytes c.in-Ok-Some.byte _ _ _ c.take_held.new.taken c.args.taken.now all.delivered one here all.asked all.counted (few_more c.take_held.new.lexer.bytes here) in
    let new = c.in-Ok-More-step.ensures.takes here in
    let bytes : c.step.new.self.bytes ≡ c.take_held.new.lexer.bytes ++ c.in-Ok-Some.byte ∷ [] = ap (λ (w : SectionBytes). w.bytes) new in
    let line = ap (λ (w : SectionBytes). w.from) new ∙ held_line c.loop.lexer.bytes _ _ _ c.loop.taken c.args.taken.now _ c.loop.lexer.from _ v.delivered v.asked v.taken v.within h ∙ v.line in
    let goes = subst (λ (xs : List ℕ). cut_after xs ≡ More) bytes (sym (rw c.in-Ok-More-step.field-0-is at c.in-Ok-More-step.ensures.says)) in
    let means = subst (λ (xs : List ℕ). Means More xs) bytes (rw c.in-Ok-More-step.field-0-is at c.in-Ok-More-step.ensures.means here) in
    rw bytes record {
      delivered = more.delivered;
      line = line;
      goes_on = goes;
      asked = more.asked;
      taken = more.counted;
      counted = omega (arith, v.counted, longer, length-append c.take_held.new.lexer.bytes (c.in-Ok-Some.byte ∷ []));
      within = means.0;
      most = omega arith;
      readable = λ why. c.in-Ok-Some.ensures.failures;
    }
