-- A word that is taken with the blanks before it and what is behind it.
use Rattle.std.proofs.Common.{◌≡◌, ◌+◌, ℕ, Bool, false, List, [], ◌∷◌, ◌++◌, length, length-append, arith, append_assoc}
use Rattle.bk_words.specs.Words.{is_blank, AreBlank, AreInWord}
use Rattle.bk_words.specs.Gathering.{IsAfterWord, TakesWord, BeginsWord}

abbrev pub the_word : (blanks : List ℕ) (first : ℕ) (rest following : List ℕ) (last : Bool) (end : Type 0) → AreBlank blanks → is_blank first ≡ false → AreInWord rest → IsAfterWord following last end →
    TakesWord ((blanks ++ first ∷ []) ++ (rest ++ following)) last end
the_word blanks first rest following last end are_blank inside in_word past = record {
  blanks = blanks;
  first = first;
  rest = rest;
  following = following;
  whole = append_assoc blanks (first ∷ []) (rest ++ following);
  are_blank = are_blank;
  in_word = (inside, in_word);
  past = past;
}

-- a word of which the device gave no more
pub begins_word : (blanks : List ℕ) (first : ℕ) (rest : List ℕ) → AreBlank blanks → is_blank first ≡ false → AreInWord rest → BeginsWord ((blanks ++ first ∷ []) ++ rest)
begins_word blanks first rest are_blank inside in_word = record {
  blanks = blanks;
  begun = first ∷ rest;
  whole = append_assoc blanks (first ∷ []) rest;
  are_blank = are_blank;
  in_word = (inside, in_word);
}

pub count-both : (x y : List ℕ) (m n k : ℕ) → m ≡ n + length x → k ≡ m + length y → k ≡ n + length (x ++ y)
count-both x y m n k p q = omega (arith, length-append x y)
