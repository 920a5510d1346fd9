-- What a text of parts says, segments of INTCODE or sections of OCODE: the parts one after another, or the first that is refused.
use Rattle.std.specs.Prelude.{◌≡◌, ℕ, ◌+◌, ◌^◌, ◌-◌, ◌<◌, min, Bool, IsTrue, ⊤, List, [], ◌∷◌, ◌++◌, Option, length}
use Rattle.std.specs.Io.KnownBytes.{Consumes}
use Rattle.bk_base.specs.declared.limit.TheConstants.{INPUT_BYTES}
use Rattle.bk_words.specs.Words.{words_of}

-- What a part keeps, its words, and which words are refused: at which of its items or statements, and why.
pub record Format (Part Kind : Type 0) : Type 1 where
  pub Whole : Part → Type 0
  pub words : Part → List (List ℕ)
  pub Refuses : ℕ → Kind → List (List ℕ) → Type 0

-- the parts, or the number of a refused one with its item or statement and what is wrong there
pub data Saying (Part Kind : Type 0) : Type 0 where
  parts : List Part → Saying Part Kind
  refused : ℕ → ℕ → Kind → Saying Part Kind

-- the number of the part after so many others, which stays at 2 ^ 32 - 1 once it was reached
abbrev pub part_number : ℕ → ℕ
part_number before = min (before + 1) (2 ^ 32 - 1)

module _ {Part Kind : Type 0} (format : Format Part Kind) where
  -- the words of parts
  abbrev pub all_words : List Part → List (List ℕ)
  all_words [] = []
  all_words (part ∷ rest) = format.words part ++ all_words rest

  abbrev pub AreWhole : List Part → Type 0
  AreWhole [] = ⊤
  AreWhole (part ∷ rest) = format.Whole part × AreWhole rest

  -- The words are those of parts, or after those of parts they are refused.
  abbrev pub Says : Saying Part Kind → List (List ℕ) → Type 0
  Says (parts all) words = AreWhole all × (words ≡ all_words all)
  Says (refused number place kind) words =
      (before : List Part) × (rest : List (List ℕ)) × AreWhole before × (words ≡ all_words before ++ rest)
      × format.Refuses place kind rest × (number ≡ part_number (length before))

  -- A text that begins with these bytes says this, whatever follows them: nothing, where the end was reported. A text has less bytes
  -- than one call reads.
  abbrev pub SaysWhateverFollows : Saying Part Kind → List ℕ → Bool → Type 0
  SaysWhateverFollows saying taken ended =
      (more : List ℕ) → (IsTrue ended → more ≡ []) → length (taken ++ more) < INPUT_BYTES → Says saying (words_of (taken ++ more))

  -- Bytes were taken, and the text says this whatever follows them.
  pub record Applies (saying : Saying Part Kind) (old new : Option (List ℕ)) (ended : Bool) : Type 0 where
    pub taken : List ℕ
    pub delivered : Consumes old new taken
    pub says : SaysWhateverFollows saying taken ended

  -- The read failed after the bytes of whole parts, and these of the next, which had not come to its end.
  pub record StopsInPart (IsPart : List ℕ → Type 0) (old new : Option (List ℕ)) : Type 0 where
    pub before : List Part
    pub bytes : List ℕ
    pub part : List ℕ
    pub delivered : Consumes old new (bytes ++ part)
    pub whole : AreWhole before
    -- the bytes are the words of the parts, whatever follows them
    pub are : (more : List ℕ) → length (bytes ++ more) < INPUT_BYTES → words_of (bytes ++ more) ≡ all_words before ++ words_of more
    pub is_part : IsPart part
