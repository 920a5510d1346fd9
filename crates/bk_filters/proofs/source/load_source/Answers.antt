use Rattle.bk_filters.proofs.Terms.{◌≡◌, ◌∙◌, ◌+◌, ◌≤◌, ap, sym, Bool, true, false, refl, inl, inr, List, map, rules, Err, cases_lt, Item, items_of, SEGMENTS, stack_start, any_starts, segments, Assembled}
use Rattle.bk_filters.proofs.SourceLemmas.{not_assembled, not_loaded, none_loaded, segments_not_loaded}
use Rattle.bk_filters.proofs.source.load_source.Goals as goal

pub returns-in_err-segments-clause-refused : goal.returns-in_err-segments-clause-refused
returns-in_err-segments-clause-refused g c =
    let refused = not_assembled c.args.words _ _ _ c.in_err-segments.field-0.0 c.in_err-segments.ensures.refused in
    search (refused, c.from_residual.ensures, rules)

pub returns-in_err-segments-clause-not_loaded : goal.returns-in_err-segments-clause-not_loaded
returns-in_err-segments-clause-not_loaded g c =
    let none = none_loaded c.args.words _ _ _ c.in_err-segments.field-0.0 c.in_err-segments.ensures.refused in
    search (none, c.from_residual.ensures, rules)

pub returns-in_err-load-clause-not_loaded : goal.returns-in_err-load-clause-not_loaded
returns-in_err-load-clause-not_loaded g c =
    let made : Assembled (map items_of c.as_slice.result.now) (g.C.ByteIn.left c.args.source.now) (g.C.ByteIn.left c.assemble.new.source) (g.C.ByteIn.ended c.assemble.new.source) =
    rw (← c.as_slice.ensures.value) at c.in_ok-segments.ensures.assembled in
    let none = segments_not_loaded c.args.words (g.C.ByteIn.left c.args.source.now) (g.C.ByteIn.left c.assemble.new.source) (g.C.ByteIn.ended c.assemble.new.source)
    c.in_err-load.field-0.0 (map items_of c.as_slice.result.now) made
    (λ small. c.load.ensures.too_small.0 (c.in_err-load.was ∙ ap Err small))
    (λ none. c.load.ensures.no_start.0 (c.in_err-load.was ∙ ap Err none)) in
    search (none, c.from_residual-in_err-load.ensures, rules)

pub returns-in_err-load-clause-refused : goal.returns-in_err-load-clause-refused
returns-in_err-load-clause-refused g c =
    let made = c.in_ok-segments.ensures.assembled in
    let same : segments made.parts ≡ map items_of c.as_slice.result.now = made.segments_are ∙ ap (map items_of) (sym c.as_slice.ensures.value) in
    let refused = not_loaded c.args.words (g.C.ByteIn.left c.args.source.now) (g.C.ByteIn.left c.assemble.new.source) (g.C.ByteIn.ended c.assemble.new.source)
    c.sources_run.ensures.too_small c.sources_run.ensures.startless c.requires.most c.in_err-load.field-0.0 made.parts made.has
    (λ small. rw same (c.load.ensures.too_small.0 (c.in_err-load.was ∙ ap Err small)))
    (λ none. rw same (c.load.ensures.no_start.0 (c.in_err-load.was ∙ ap Err none))) in
    search (refused, c.from_residual-in_err-load.ensures, rules)

pub returns-clause-loaded : goal.returns-clause-loaded
returns-clause-loaded g c =
    let made = c.in_ok-segments.ensures.assembled in
    let all : List (List Item) = map items_of c.as_slice.result.now in
    let same : segments made.parts ≡ all = made.segments_are ∙ ap (map items_of) (sym c.as_slice.ensures.value) in
    let room : stack_start SEGMENTS all + 16 ≤ c.args.words = elim (cases_lt c.args.words (stack_start SEGMENTS all + 16)) [
      | inl low ↦ absurd (let bad = sym c.in_ok-load.was ∙ c.load.ensures.too_small.1 low in cc)
      | inr high ↦ high
    ] in
    let not_started : any_starts all ≡ false → ⊥ = λ none. (let bad = sym c.in_ok-load.was ∙ c.load.ensures.no_start.1 (room, none) in cc) in
    record {
      parts = made.parts;
      has = made.has;
      room = rw same room;
      starts = rw same (by_case (any_starts all) not_started);
      store = rw same c.in_ok-load.ensures.store;
      registers = rw same c.in_ok-load.ensures.registers;
      fresh = c.in_ok-load.ensures.fresh;
    }
  where
    by_case : (b : Bool) → (b ≡ false → ⊥) → b ≡ true
    by_case true not = refl
    by_case false not = absurd (not refl)
