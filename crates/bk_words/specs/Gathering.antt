-- What is next in a text, and what is held of a word.
use Rattle.std.specs.Prelude.{◌≡◌, ℕ, ◌<◌, Bool, true, false, List, [], ◌∷◌, ◌++◌, length, Option, None, Some}
use Rattle.bk_words.specs.declared.words.Gathered.{Gathered}
use Rattle.bk_words.specs.declared.word_buffer.TheConstants.{SIZE}
use Rattle.bk_words.specs.Words.{is_blank, AreBlank, AreInWord}

-- the first byte, and the whole word or that it is longer than what is held of a word
pub record HoldsWord (held : List ℕ) (is_long : Bool) (word : List ℕ) : Type 0 where
  pub first : (byte : ℕ) (rest : List ℕ) → word ≡ byte ∷ rest → (more : List ℕ) × (held ≡ byte ∷ more)
  pub short : is_long ≡ false → held ≡ word
  pub long : is_long ≡ true → SIZE < length word

abbrev pub Holds : Gathered → List ℕ → Type 0
Holds held word = HoldsWord held.word held.long word

-- one blank follows a word, or nothing where the text ends
abbrev pub IsAfterWord : List ℕ → Bool → Type 0 → Type 0
IsAfterWord following true end = (following ≡ []) × end
IsAfterWord following false end = (byte : ℕ) × (is_blank byte ≡ true) × (following ≡ byte ∷ [])

-- the bytes are blanks, a word, and one blank more, unless the text ends right after the word
pub record TakesWord (given : List ℕ) (last : Bool) (end : Type 0) : Type 0 where
  pub blanks : List ℕ
  pub first : ℕ
  pub rest : List ℕ
  pub following : List ℕ
  pub whole : given ≡ blanks ++ ((first ∷ rest) ++ following)
  pub are_blank : AreBlank blanks
  pub in_word : AreInWord (first ∷ rest)
  pub past : IsAfterWord following last end

-- the bytes are those of the next word, or blanks up to the end
abbrev pub IsNextWord : Option Gathered → List ℕ → Type 0 → Type 0
IsNextWord (Some held) given end = (t : TakesWord given held.last end) × Holds held (t.first ∷ t.rest)
IsNextWord None given end = AreBlank given × end

-- the bytes are blanks, or none, and the first of a word, or none
pub record BeginsWord (given : List ℕ) : Type 0 where
  pub blanks : List ℕ
  pub begun : List ℕ
  pub whole : given ≡ blanks ++ begun
  pub are_blank : AreBlank blanks
  pub in_word : AreInWord begun
