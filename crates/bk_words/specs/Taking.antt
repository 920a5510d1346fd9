-- What was taken of a text so far, as its words.
use Rattle.std.specs.Prelude.{◌≡◌, ◌⊎◌, ℕ, Bool, List, [], ◌++◌, Option, length}
use Rattle.std.specs.Io.KnownBytes.{Consumes}
use Rattle.bk_words.specs.TextEnd.{AtEnd}
use Rattle.bk_words.specs.Words.{words_of, AreInWord, EndsInWord, EndsInBlank, IsAfter}

-- What was taken of a text ends with these words: it goes up to the end of the last, and a blank more if there is one.
pub record TakesWords (taken : List ℕ) (end : Type 0) (words : List (List ℕ)) : Type 0 where
  pub text : List ℕ
  pub following : List ℕ
  pub whole : taken ≡ text ++ following
  pub are : words_of text ≡ words
  pub ends : EndsInWord text
  pub past : IsAfter following end

-- These words were taken, if any.
abbrev pub TakesSome : List ℕ → Type 0 → List (List ℕ) → Type 0
TakesSome taken end words = ((taken ≡ []) × (words ≡ [])) ⊎ TakesWords taken end words

-- Known bytes that were left lost those of these words, and so many bytes were taken.
abbrev pub Reads : Option (List ℕ) → Option (List ℕ) → Bool → ℕ → List (List ℕ) → Type 0
Reads old new ended count words =
    (taken : List ℕ) × Consumes old new taken × (count ≡ length taken) × TakesSome taken (AtEnd ended count) words

-- And blanks up to the end of the text.
abbrev pub ReadsAll : Option (List ℕ) → Option (List ℕ) → Bool → ℕ → List (List ℕ) → Type 0
ReadsAll old new ended count words =
    (taken : List ℕ) × Consumes old new taken × (count ≡ length taken) × (words_of taken ≡ words) × AtEnd ended count

-- What was taken of a text whose device failed then: these words, each with a blank after it, more blanks or none, and after
-- them the bytes of one word that did not end, or none.
pub record StopsInWord (taken : List ℕ) (words : List (List ℕ)) : Type 0 where
  pub front : List ℕ
  pub begun : List ℕ
  pub whole : taken ≡ front ++ begun
  pub are : words_of front ≡ words
  pub ends : EndsInBlank front
  pub in_word : AreInWord begun
