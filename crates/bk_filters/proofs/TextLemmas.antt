-- The parts that were read of a text, and what the words of the text say.
use Rattle.bk_filters.proofs.Terms.{◌≡◌, inl, inr, ℕ, ◌<◌, ◌++◌, Bool, IsTrue, List, [], ◌∷◌, Option, None, Some, length, arith, refl, sym, ap, ◌∙◌, append_assoc, append-nil, length-append, Consumes, NothingLeft, INPUT_BYTES, AtEnd, words_of, Format, parts, refused, part_number, all_words, AreWhole, SaysWhateverFollows}

-- a text that is short enough ends only where the end was told
at_end : (ended : Bool) (taken more : List ℕ) → length (taken ++ more) < INPUT_BYTES → (IsTrue ended → more ≡ []) → AtEnd ended (length taken) → more ≡ []
at_end ended taken more short over (inl reported) = over reported
at_end ended taken more short over (inr full) = absurd (omega (arith, short, full, length-append taken more))

shorter : (front taken more : List ℕ) → length ((front ++ taken) ++ more) < INPUT_BYTES → length (taken ++ more) < INPUT_BYTES
shorter front taken more short = omega (arith, short, length-append (front ++ taken) more, length-append front taken, length-append taken more)

-- where nothing was left nothing was taken
pub nothing_taken : (now new : Option (List ℕ)) (taken : List ℕ) → NothingLeft now → Consumes now new taken → Consumes now new []
nothing_taken None new taken none took = tt
nothing_taken (Some left) None taken none took = absurd took
nothing_taken (Some left) (Some rest) taken none took = let empty = none left refl in empty ∙ sym (both_empty taken rest (sym empty ∙ took))
  where
    both_empty : (x y : List ℕ) → [] ≡ x ++ y → y ≡ []
    both_empty [] y is = sym is
    both_empty (b ∷ x) y is = cc

module _ {Part Kind : Type 0} (format : Format Part Kind) where
  -- the bytes taken are the words of these parts, whatever follows
  pub record Read (all : List Part) (taken : List ℕ) (ended : Bool) : Type 0 where
    pub are : AreWhole format all
    pub says : (more : List ℕ) → (IsTrue ended → more ≡ []) → length (taken ++ more) < INPUT_BYTES → words_of (taken ++ more) ≡ all_words format all ++ words_of more

  pub read_none : (ended : Bool) → Read [] [] ended
  read_none ended = record { are = tt; says = λ more over short. refl }

  words_push : (all : List Part) (last : Part) → all_words format (all ++ last ∷ []) ≡ all_words format all ++ format.words last
  words_push [] last = append-nil (format.words last)
  words_push (first ∷ all) last = ap (λ (w : List (List ℕ)). format.words first ++ w) (words_push all last) ∙ sym (append_assoc (format.words first) (all_words format all) (format.words last))

  whole_push : (all : List Part) (last : Part) → AreWhole format all → format.Whole last → AreWhole format (all ++ last ∷ [])
  whole_push [] last are whole = (whole, tt)
  whole_push (first ∷ all) last are whole = (are.0, whole_push all last are.1 whole)

  module _ (all : List Part) (front : List ℕ) (was : Bool) (read : Read all front was) where
    module _ (taken : List ℕ) (ended : Bool) (not_over : IsTrue was → ⊥) where
      -- all words are those of the parts and what the bytes behind them say
      words_after : (more : List ℕ) → length ((front ++ taken) ++ more) < INPUT_BYTES → words_of ((front ++ taken) ++ more) ≡ all_words format all ++ words_of (taken ++ more)
      words_after more short =
          let same : (front ++ taken) ++ more ≡ front ++ (taken ++ more) = append_assoc front taken more in
          ap words_of same ∙ read.says (taken ++ more) (λ over. absurd (not_over over)) (omega (arith, short, ap (λ (l : List ℕ). length l) same))

      -- another part
      pub read_more : (last : Part) → format.Whole last
          → ((more : List ℕ) → (AtEnd ended (length taken) → more ≡ []) → words_of (taken ++ more) ≡ format.words last ++ words_of more)
          → Read (all ++ last ∷ []) (front ++ taken) ended
      read_more last whole are = record {
        are = whole_push all last read.are whole;
        says = λ more over short.
            words_after more short
            ∙ ap (λ (w : List (List ℕ)). all_words format all ++ w) (are more (at_end ended taken more (shorter front taken more short) over))
            ∙ sym (append_assoc (all_words format all) (format.words last) (words_of more))
            ∙ ap (λ (w : List (List ℕ)). w ++ words_of more) (sym (words_push all last));
      }

      -- one that is refused
      pub says_refused : (place : ℕ) (kind : Kind) → ((more : List ℕ) → (AtEnd ended (length taken) → more ≡ []) → format.Refuses place kind (words_of (taken ++ more)))
          → SaysWhateverFollows format (refused (part_number (length all)) place kind) (front ++ taken) ended
      says_refused place kind refuses more over short = (
        all,
        words_of (taken ++ more),
        read.are,
        words_after more short,
        refuses more (at_end ended taken more (shorter front taken more short) over),
        refl,
      )

      -- none
      pub says_whole : ((more : List ℕ) → (AtEnd ended (length taken) → more ≡ []) → words_of (taken ++ more) ≡ []) → SaysWhateverFollows format (parts all) (front ++ taken) ended
      says_whole none more over short = (
        read.are,
        words_after more short
            ∙ ap (λ (w : List (List ℕ)). all_words format all ++ w) (none more (at_end ended taken more (shorter front taken more short) over))
            ∙ append-nil (all_words format all),
      )

    -- none, where the end was told before
    pub says_all : (ended : Bool) → (IsTrue was → IsTrue ended) → IsTrue was → SaysWhateverFollows format (parts all) front ended
    says_all ended stays reported more over short = (
      read.are,
      read.says more (λ again. over (stays again)) short ∙ ap (λ (m : List ℕ). all_words format all ++ words_of m) (over (stays reported)) ∙ append-nil (all_words format all),
    )
