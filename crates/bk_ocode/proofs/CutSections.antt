-- Words of a section that did not end before the device failed.
use Rattle.bk_ocode.proofs.Terms.{◌≡◌, ◌⊎◌, inl, inr, ℕ, ◌+◌, ◌≤◌, ◌++◌, Bool, List, [], ◌∷◌, Option, length, arith, refl, ap, length-append, cases_lt, Consumes, OCODE_WORDS, Truncated, AtEnd, words_of, BeginsWord, Reads, Reads-stops, section_words, IsPartial, BeginsStmt, section, nothing, fault, Takes, StopsAtDevice, NoSectionPassed, Stmt}
use Rattle.bk_ocode.proofs.OneSaying.{one_saying}

-- the device failed at a word
pub stops_behind : (old a b : Option (List ℕ)) (e f : Bool) (m : ℕ) (stmts : List Stmt) (part : List (List ℕ)) (given : List ℕ) → IsPartial stmts → Reads old a e m (section_words stmts ++ part) → (AtEnd e m → ⊥) →
    BeginsWord given → Consumes a b given → length (section_words stmts) + length part ≤ OCODE_WORDS → (part ≡ []) ⊎ BeginsStmt stmts part → Takes old b f (λ taken end. StopsAtDevice taken)
stops_behind old a b e f m stmts part given begun reads unended begins gives few goes_on =
    let stops = Reads-stops old a b e m (section_words stmts ++ part) given reads unended begins gives in (
      stops.0,
      stops.1,
      record {
        before = stmts;
        begun = begun;
        part = part;
        goes_on = goes_on;
        within = omega (arith, few, length-append (section_words stmts) part);
        are = stops.2;
      },
    )

-- the words up to there are none, or those of a section that is cut
pub no_section_passed : NoSectionPassed
no_section_passed taken stops stmts says = elim (cases_lt 0 (length words)) [
  | inl some ↦ absurd (let other : section stmts ≡ fault (length stops.before + 1) Truncated = one_saying words (section stmts) (fault (length stops.before + 1) Truncated) says (inr (
    refl,
    record {
      before = stops.before;
      begun = stops.begun;
      part = stops.part;
      some = some;
      within = omega (arith, stops.within, ap (λ (l : List (List ℕ)). length l) stops.are.are);
      are = stops.are.are;
      place = refl;
      goes_on = stops.goes_on;
    },
  )) in cc)
  | inr none ↦ absurd (let other : section stmts ≡ nothing = one_saying words (section stmts) nothing says (empty words (omega (arith, none))) in cc)
]
  where
    words : List (List ℕ)
    words = words_of stops.are.front

    empty : (l : List (List ℕ)) → length l ≡ 0 → l ≡ []
    empty [] is = refl
    empty (x ∷ l) is = absurd (omega arith)
