use Rattle.bk_filters.proofs.Terms.{◌≡◌, ◌+◌, ◌≤◌, Bool, true, false, List, map, rules, sym, ◌∙◌, subst, refl, inl, inr, cases_lt, Item, items_of, SEGMENTS, stack_start, any_starts, parts, Applies, intcode}
use Rattle.bk_machine.specs.declared.segment.Intcode.{Intcode}
use Rattle.bk_filters.proofs.LoadLemmas.{refused_anyhow}
use Rattle.bk_filters.proofs.code.load_code.Goals as goal

pub returns-in_err-segments-clause-refused : goal.returns-in_err-segments-clause-refused
returns-in_err-segments-clause-refused g c =
    let anyhow = refused_anyhow c.in_err-segments.field-0.0 c.args.words _ _ _ c.in_err-segments.ensures.refused in search rules

pub returns-clause-loaded : goal.returns-clause-loaded
returns-clause-loaded g c =
    let all : List (List Item) = map items_of c.as_slice.result.now in
    let applies : Applies intcode (parts all) (g.C.ByteIn.left c.args.code.now) (g.C.ByteIn.left c.read_code.new.code) (g.C.ByteIn.ended c.read_code.new.code) =
    subst (λ (l : List Intcode). Applies intcode (parts (map items_of l)) (g.C.ByteIn.left c.args.code.now) (g.C.ByteIn.left c.read_code.new.code) (g.C.ByteIn.ended c.read_code.new.code))
    (sym c.as_slice.ensures.value) c.in_ok-segments.ensures.read in
    let room : stack_start SEGMENTS all + 16 ≤ c.args.words = elim (cases_lt c.args.words (stack_start SEGMENTS all + 16)) [
      | inl low ↦ absurd (let bad = sym c.in_ok-load.was ∙ c.load.ensures.too_small.1 low in cc)
      | inr high ↦ high
    ] in
    let not_started : any_starts all ≡ false → ⊥ = λ none. (let bad = sym c.in_ok-load.was ∙ c.load.ensures.no_start.1 (room, none) in cc) in
    record {
      all = all;
      loadable = record { applies = applies; room = room; starts = by_case (any_starts all) not_started };
      store = c.in_ok-load.ensures.store;
      registers = c.in_ok-load.ensures.registers;
      fresh = c.in_ok-load.ensures.fresh;
      sizes = c.in_ok-load.ensures.sizes;
    }
  where
    by_case : (b : Bool) → (b ≡ false → ⊥) → b ≡ true
    by_case true not = refl
    by_case false not = absurd (not refl)
