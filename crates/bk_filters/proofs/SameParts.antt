-- Parts of a text that have the same words are the same parts, and are not refused.
use Rattle.bk_filters.proofs.Terms.{◌≡◌, ℕ, List, [], ◌∷◌, ◌++◌, refl, sym, ap, ◌∙◌, append_assoc, Format, all_words, AreWhole}

-- where the words of a part tell it, and where they end
module _ {Part Kind : Type 0} (format : Format Part Kind)
    (first : (a b : Part) (r s : List (List ℕ)) → format.Whole a → format.Whole b → format.words a ++ r ≡ format.words b ++ s → (a ≡ b) × (r ≡ s))
    (some : (a : Part) (r : List (List ℕ)) → format.Whole a → [] ≡ format.words a ++ r → ⊥) where
  pub same_parts : (xs ys : List Part) → AreWhole format xs → AreWhole format ys → all_words format xs ≡ all_words format ys → xs ≡ ys
  same_parts [] [] are also is = refl
  same_parts [] (b ∷ ys) are also is = absurd (some b (all_words format ys) also.0 is)
  same_parts (a ∷ xs) [] are also is = absurd (some a (all_words format xs) are.0 (sym is))
  same_parts (a ∷ xs) (b ∷ ys) are also is =
      let h = first a b (all_words format xs) (all_words format ys) are.0 also.0 is in
      ap (λ x. x ∷ xs) h.0 ∙ ap (λ x. b ∷ x) (same_parts xs ys are.1 also.1 h.1)

  -- where no words, nor those of a part, are refused
  module _ (none : (place : ℕ) (kind : Kind) → format.Refuses place kind [] → ⊥)
      (whole : (a : Part) (r : List (List ℕ)) (place : ℕ) (kind : Kind) → format.Whole a → format.Refuses place kind (format.words a ++ r) → ⊥) where
    pub not_refused : (xs before : List Part) (rest : List (List ℕ)) (place : ℕ) (kind : Kind) → AreWhole format xs → AreWhole format before
        → format.Refuses place kind rest → all_words format xs ≡ all_words format before ++ rest → ⊥
    not_refused [] [] rest place kind are also refuses is = none place kind (rw (← is) at refuses)
    not_refused (a ∷ xs) [] rest place kind are also refuses is = whole a (all_words format xs) place kind are.0 (rw (← is) at refuses)
    not_refused [] (b ∷ before) rest place kind are also refuses is =
        some b (all_words format before ++ rest) also.0 (is ∙ append_assoc (format.words b) (all_words format before) rest)
    not_refused (a ∷ xs) (b ∷ before) rest place kind are also refuses is =
        let h = first a b (all_words format xs) (all_words format before ++ rest) are.0 also.0 (is ∙ append_assoc (format.words b) (all_words format before) rest) in
        not_refused xs before rest place kind are.1 also.1 refuses h.1
