-- Words of a segment that did not end before the device failed.
use Rattle.bk_intcode.proofs.Terms.{◌≡◌, inl, inr, ℕ, ◌+◌, ◌++◌, Bool, List, [], ◌∷◌, Option, length, map, arith, refl, sym, ap, ◌∙◌, append_assoc, cases_lt, Consumes, Consumes-trans, Truncated, Item, words_of, BeginsWord, words_of-more_blanks, EndsInBlank-append, item_text, IsPartial, StopsAtDevice, segment, nothing, fault, Takes, NoSegmentPassed}
use Rattle.bk_intcode.proofs.ReadingLemmas.{Read}
use Rattle.bk_intcode.proofs.OneSaying.{one_saying}

-- the device failed at a word
pub stops_behind : (a b c : Option (List ℕ)) (m : ℕ) (ended : Bool) (items : List Item) (given : List ℕ) → Read a b m items → BeginsWord given → Consumes b c given → IsPartial items →
    Takes a c ended (λ taken end. StopsAtDevice taken)
stops_behind a b c m ended items given s begins gives begun = (
  s.0 ++ given,
  Consumes-trans a b c s.0 given s.1 gives,
  record {
    before = items;
    begun = begun;
    are = record {
      front = s.0 ++ begins.blanks;
      begun = begins.begun;
      whole = ap (λ (g : List ℕ). s.0 ++ g) begins.whole ∙ sym (append_assoc s.0 begins.blanks begins.begun);
      are = words_of-more_blanks s.0 begins.blanks (map item_text items) s.4 s.3 begins.are_blank;
      ends = EndsInBlank-append s.0 begins.blanks s.5 begins.are_blank;
      in_word = begins.in_word;
    };
  },
)

-- the words up to there are none, or those of a segment that is cut
pub no_segment_passed : NoSegmentPassed
no_segment_passed taken stops items says = elim (cases_lt 0 (length stops.before)) [
  | inl some ↦ absurd (let other : segment items ≡ fault (length stops.before + 1) Truncated = one_saying words (segment items) (fault (length stops.before + 1) Truncated) says
      (inr (refl, record { before = stops.before; begun = stops.begun; some = some; are = stops.are.are; place = refl })) in cc)
  | inr none ↦ absurd (let other : segment items ≡ nothing = one_saying words (segment items) nothing says (stops.are.are ∙ empty stops.before (omega (arith, none))) in cc)
]
  where
    words : List (List ℕ)
    words = words_of stops.are.front

    empty : (l : List Item) → length l ≡ 0 → map item_text l ≡ []
    empty [] is = refl
    empty (x ∷ l) is = absurd (omega arith)
