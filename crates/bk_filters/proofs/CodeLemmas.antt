-- Parts that were read of a text, segments of INTCODE or sections of OCODE, and the bytes that were taken for them.
use Rattle.bk_filters.proofs.Terms.{◌≡◌, ℕ, ◌++◌, Bool, true, false, IsTrue, List, [], ◌∷◌, Option, length, refl, sym, subst, ◌∙◌, append-nil, Consumes, NothingLeft, Consumes-trans, AtEnd, words_of, Format, Applies as Says, StopsInPart, parts, refused, part_number}
use Rattle.bk_filters.proofs.TextLemmas as text
use Rattle.bk_filters.proofs.TextLemmas.{read_more, says_refused, says_whole, says_all, nothing_taken}

-- Bytes were taken, and this holds of them and of what follows.
abbrev pub Follows : Option (List ℕ) → Option (List ℕ) → Bool → (List ℕ → List ℕ → Type 0) → Type 0
Follows now new ended Holds =
    (taken : List ℕ) × Consumes now new taken × ((more : List ℕ) → (AtEnd ended (length taken) → more ≡ []) → Holds taken more)

module _ {Part Kind : Type 0} (format : Format Part Kind) where
  -- the bytes taken are the words of these parts, whatever follows
  pub record Front (all : List Part) (old now : Option (List ℕ)) (ended : Bool) : Type 0 where
    pub taken : List ℕ
    pub delivered : Consumes old now taken
    pub read : text.Read format all taken ended

  module _ (all : List Part) (old now new : Option (List ℕ)) (was ended : Bool) (front : Front all old now was) where
    pub Front-push : (part : Part) → format.Whole part → (IsTrue was → ⊥) → Follows now new ended (λ taken more. words_of (taken ++ more) ≡ format.words part ++ words_of more)
        → Front (all ++ part ∷ []) old new ended
    Front-push part whole not_over t = record {
      taken = front.taken ++ t.0;
      delivered = Consumes-trans old now new front.taken t.0 front.delivered t.1;
      read = read_more format all front.taken was front.read t.0 ended not_over part whole t.2;
    }

    pub Front-refused : (place : ℕ) (kind : Kind) → (IsTrue was → ⊥) → Follows now new ended (λ taken more. format.Refuses place kind (words_of (taken ++ more)))
        → Says format (refused (part_number (length all)) place kind) old new ended
    Front-refused place kind not_over t = record {
      taken = front.taken ++ t.0;
      delivered = Consumes-trans old now new front.taken t.0 front.delivered t.1;
      says = says_refused format all front.taken was front.read t.0 ended not_over place kind t.2;
    }

    pub Front-stops : (IsPart : List ℕ → Type 0) → (IsTrue was → ⊥) → (taken : List ℕ) × Consumes now new taken × IsPart taken → StopsInPart format IsPart old new
    Front-stops IsPart not_over t = record {
      before = all;
      bytes = front.taken;
      part = t.0;
      delivered = Consumes-trans old now new front.taken t.0 front.delivered t.1;
      whole = front.read.are;
      are = λ more short. front.read.says more (λ over. absurd (not_over over)) short;
      is_part = t.2;
    }

    pub Front-whole : (IsTrue was → NothingLeft now) → (IsTrue was → IsTrue ended) → Follows now new ended (λ taken more. words_of (taken ++ more) ≡ []) → Says format (parts all) old new ended
    Front-whole none stays t = by_case was refl
      where
        by_case : (b : Bool) → was ≡ b → Says format (parts all) old new ended
        by_case true is = record {
          taken = front.taken;
          delivered = subst (λ (l : List ℕ). Consumes old new l) (append-nil front.taken) (Consumes-trans old now new front.taken [] front.delivered (nothing_taken now new t.0 (none is) t.1));
          says = says_all format all front.taken was front.read ended stays is;
        }
        by_case false is = record {
          taken = front.taken ++ t.0;
          delivered = Consumes-trans old now new front.taken t.0 front.delivered t.1;
          says = says_whole format all front.taken was front.read t.0 ended (λ reported. let no : false ≡ true = sym is ∙ reported in cc) t.2;
        }
