-- The words of a text: what is between blanks.
use Rattle.std.specs.Prelude.{◌≡◌, ◌⊎◌, ℕ, ◌==◌, ◌||◌, Bool, true, false, ⊤, List, [], ◌∷◌, ◌++◌, if◌then◌else◌}

-- space, tab, line feed, form feed and carriage return
abbrev pub is_blank : ℕ → Bool
is_blank byte = byte == 32 || byte == 9 || byte == 10 || byte == 12 || byte == 13

-- no word goes on here: a blank follows, or nothing
abbrev pub at_gap : List ℕ → Bool
at_gap [] = true
at_gap (byte ∷ rest) = is_blank byte

-- the byte goes in front of the first word
abbrev pub onto_first : ℕ → List (List ℕ) → List (List ℕ)
onto_first byte [] = (byte ∷ []) ∷ []
onto_first byte (word ∷ words) = (byte ∷ word) ∷ words

-- Any blanks part the words. A byte that is none belongs to the word that goes on after it, or is a word's last.
abbrev pub words_of : List ℕ → List (List ℕ)
words_of [] = []
words_of (byte ∷ rest) =
    if is_blank byte then words_of rest
    else if at_gap rest then (byte ∷ []) ∷ words_of rest
    else onto_first byte (words_of rest)

-- blanks alone
abbrev pub AreBlank : List ℕ → Type 0
AreBlank [] = ⊤
AreBlank (byte ∷ rest) = (is_blank byte ≡ true) × AreBlank rest

-- no blanks
abbrev pub AreInWord : List ℕ → Type 0
AreInWord [] = ⊤
AreInWord (byte ∷ rest) = (is_blank byte ≡ false) × AreInWord rest

-- the last byte is no blank
abbrev pub EndsInWord : List ℕ → Type 0
EndsInWord text = (front : List ℕ) × (byte : ℕ) × (is_blank byte ≡ false) × (text ≡ front ++ byte ∷ [])

-- empty, or the last byte is a blank
abbrev pub EndsInBlank : List ℕ → Type 0
EndsInBlank text = (text ≡ []) ⊎ ((front : List ℕ) × (byte : ℕ) × (is_blank byte ≡ true) × (text ≡ front ++ byte ∷ []))

-- what is taken after a word: one blank, or nothing where the text ends
abbrev pub IsAfter : List ℕ → Type 0 → Type 0
IsAfter following end = ((byte : ℕ) × (is_blank byte ≡ true) × (following ≡ byte ∷ [])) ⊎ ((following ≡ []) × end)
