-- Reading and writing words and bytes by address.
use Rattle.std.specs.Prelude.{ℕ, zero, suc, ◌+◌, ◌%◌, nat_lt, List, [], ◌∷◌, Option, Some, None, option_and_then, if◌then◌else◌}
use Rattle.std.specs.Option.{option_map}
use Rattle.bk_base.specs.Word.{word_sum, byte_distance, byte_place}
use Rattle.bk_ocode.specs.Cells.{Content, Unset, Partly, Word, Variable, Temporary, Link, Cell, Free, Held, byte_in, with_byte}

-- The content of a variable. An address leads to variables alone, below a place.
abbrev pub variable_in : Cell → Option Content
variable_in (Held Variable content) = Some content
variable_in (Held Temporary content) = None
variable_in (Held Link content) = None
variable_in Free = None

abbrev pub variable_at : ℕ → (ℕ → Cell) → ℕ → Option Content
variable_at top cells a = if nat_lt a top then variable_in (cells a) else None

-- the number in a word, where it is set whole
abbrev pub number_in : Content → Option ℕ
number_in Unset = None
number_in (Partly b0 b1 b2 b3) = None
number_in (Word w) = Some w

-- byte i of the words from an address on
abbrev pub byte_at : ℕ → (ℕ → Cell) → ℕ → ℕ → Option ℕ
byte_at top cells s i =
    option_and_then (λ content. byte_in content (byte_place i)) (variable_at top cells (word_sum s (byte_distance i)))

-- the word in which that byte is, with it set to a number modulo 256
abbrev pub word_with_byte_at : ℕ → (ℕ → Cell) → ℕ → ℕ → ℕ → Option Content
word_with_byte_at top cells s i b =
    option_map (λ content. with_byte content (byte_place i) (b % 256)) (variable_at top cells (word_sum s (byte_distance i)))

-- n bytes from byte i on
abbrev pub bytes_from : ℕ → ℕ → (ℕ → Cell) → ℕ → ℕ → Option (List ℕ)
bytes_from zero top cells s i = Some []
bytes_from (suc n) top cells s i =
    option_and_then (λ b. option_map (λ rest. b ∷ rest) (bytes_from n top cells s (i + 1))) (byte_at top cells s i)

-- a string: byte 0 is its length
abbrev pub string_at : ℕ → (ℕ → Cell) → ℕ → Option (List ℕ)
string_at top cells s = option_and_then (λ n. bytes_from n top cells s 1) (byte_at top cells s 0)
