-- The words of a flat store, with what each is for and what was put into it.
use Rattle.std.specs.Prelude.{ℕ, ◌==◌, nat_lt, Option, Some, None, if◌then◌else◌}
use Rattle.bk_base.specs.Word.{packed_word, word_byte}

-- What was put into a word: nothing, a number, or single bytes of one.
pub data Content : Type 0 where
  Unset : Content
  Partly : (b0 b1 b2 b3 : Option ℕ) → Content
  Word : (w : ℕ) → Content

-- A word of a frame is a variable (a formal, a word made by STACK, an item at a STORE), a temporary, or a link. Words of
-- globals, strings and data are variables.
pub data Kind : Type 0 where
  Variable : Kind
  Temporary : Kind
  Link : Kind

-- A word of the store that is in use, with what it is for.
pub data Cell : Type 0 where
  Free : Cell
  Held : (kind : Kind) (content : Content) → Cell

abbrev pub content_of : Cell → Content
content_of Free = Unset
content_of (Held kind content) = content

abbrev pub kind_of : Cell → Kind
kind_of Free = Variable
kind_of (Held kind content) = kind

-- byte i of a word, where it is set
abbrev pub byte_in : Content → ℕ → Option ℕ
byte_in Unset i = None
byte_in (Partly b0 b1 b2 b3) i = if i == 0 then b0 else if i == 1 then b1 else if i == 2 then b2 else b3
byte_in (Word w) i = Some (word_byte w i)

-- four bytes: a number once all are set
abbrev pub four_bytes : Option ℕ → Option ℕ → Option ℕ → Option ℕ → Content
four_bytes (Some b0) (Some b1) (Some b2) (Some b3) = Word (packed_word b0 b1 b2 b3)
four_bytes b0 b1 b2 b3 = Partly b0 b1 b2 b3

-- a word with byte i set
abbrev pub with_byte : Content → ℕ → ℕ → Content
with_byte content i b =
    four_bytes (if i == 0 then Some b else byte_in content 0) (if i == 1 then Some b else byte_in content 1)
    (if i == 2 then Some b else byte_in content 2) (if i == 3 then Some b else byte_in content 3)

-- a store with one word changed
abbrev pub write : (ℕ → Cell) → ℕ → Cell → ℕ → Cell
write cells at cell place = if place == at then cell else cells place

-- only the words below a place are in use
abbrev pub below : ℕ → (ℕ → Cell) → ℕ → Cell
below top cells place = if nat_lt place top then cells place else Free

-- The words from one place up to another are variables, those not in use unset.
abbrev pub settle : ℕ → ℕ → (ℕ → Cell) → ℕ → Cell
settle from top cells place =
    if nat_lt place from then cells place
    else if nat_lt place top then Held Variable (content_of (cells place)) else cells place
