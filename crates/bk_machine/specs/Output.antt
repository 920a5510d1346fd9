-- What the library's routines write.
use Rattle.std.specs.Prelude.{ℕ, zero, suc, ◌+◌, ◌-◌, ◌%◌, ◌==◌, nat_lt, Bool, true, false, ◌&&◌, List, [], ◌∷◌, ◌++◌, slice_get, Option, Some, option_and_then, if◌then◌else◌}
use Rattle.std.specs.Option.{option_map, option_map_or}
use Rattle.bk_base.specs.Word.{signed, word_sum, word_byte, byte_distance, byte_place}
use Rattle.bk_base.specs.Decimal.{spelling}
use Rattle.bk_base.specs.Format.{aligned, capital, is_digit}
use Rattle.bk_machine.specs.declared.output.Piece.{Piece}
use Rattle.bk_machine.specs.declared.output.Piece.TheVariants as piece
use Rattle.bk_machine.specs.declared.output.Output.{Output}
use Rattle.bk_machine.specs.declared.output.Output.TheVariants as output
use Rattle.bk_machine.specs.declared.output.Directive.{Directive}

-- Byte i of the words from an address on.
abbrev pub byte_of : List ℕ → ℕ → ℕ → Option ℕ
byte_of store s i = option_map (λ w. word_byte w (byte_place i)) (slice_get store (word_sum s (byte_distance i)))

-- Bytes that are written, and whether they are all: a text is cut where it leads outside the store.
pub record Text : Type 0 where
  pub bytes : List ℕ
  pub whole : Bool

abbrev pub whole_text : List ℕ → Text
whole_text bytes = record { bytes = bytes; whole = true }

abbrev pub cut_text : Text
cut_text = record { bytes = []; whole = false }

-- one text, and the other after it if the first is whole
abbrev pub text_then : Text → Text → Text
text_then first second =
    if first.whole then record { bytes = first.bytes ++ second.bytes; whole = second.whole } else first

-- n bytes of a string from byte i on
abbrev pub string_rest : ℕ → List ℕ → ℕ → ℕ → Text
string_rest zero store s i = whole_text []
string_rest (suc n) store s i =
    option_map_or (λ b. text_then (whole_text (b ∷ [])) (string_rest n store s (i + 1))) (byte_of store s i) cut_text

-- a string: byte 0 is its length
abbrev pub string_text : List ℕ → ℕ → Text
string_text store s = option_map_or (λ n. string_rest n store s 1) (byte_of store s 0) cut_text

abbrev pub piece_text : List ℕ → Piece → Text
piece_text store (piece.Byte b) = whole_text (b ∷ [])
piece_text store (piece.String s) = string_text store s
piece_text store (piece.Number n) = whole_text (spelling (signed n))
piece_text store (piece.Aligned n w) = whole_text (aligned n w)

-- What one directive of a format writes, how many bytes of the format it takes, and how many arguments. A byte that begins
-- no directive writes itself.
abbrev pub plain : ℕ → Option Directive
plain b = Some (record { piece = piece.Byte b; bytes = 1; arguments = 0 })

-- a directive that takes the argument at an address
abbrev pub with_argument : List ℕ → ℕ → (ℕ → Piece) → ℕ → Option Directive
with_argument store a write bytes = option_map (λ w. record { piece = write w; bytes = bytes; arguments = 1 }) (slice_get store a)

-- `%I` and a digit writes the argument in that width; `left` bytes follow the I, and i is the place of the first
abbrev pub aligning : List ℕ → ℕ → ℕ → ℕ → ℕ → Option Directive
aligning store f i left a =
    if left == 0 then plain 37
    else option_and_then (λ d. if is_digit d then with_argument store a (λ w. piece.Aligned w (d - 48)) 3 else plain 37) (byte_of store f i)

-- the directive of `%` and a letter
abbrev pub lettered : List ℕ → ℕ → ℕ → ℕ → ℕ → ℕ → Option Directive
lettered store f i left a letter =
    if letter == 83 then with_argument store a (λ w. piece.String w) 2 else
    if letter == 78 then with_argument store a (λ w. piece.Number w) 2 else
    if letter == 67 then with_argument store a (λ w. piece.Byte (w % 256)) 2 else
    if letter == 73 then aligning store f (i + 2) (left - 2) a else
    if letter == 37 then Some (record { piece = piece.Byte 37; bytes = 2; arguments = 0 }) else plain 37

-- The directive at byte i of a format f, of which `left` bytes are left; a is the address of the next argument. None where
-- it leads outside the store.
abbrev pub directive : List ℕ → ℕ → ℕ → ℕ → ℕ → Option Directive
directive store f i left a =
    option_and_then (λ b.
    if b == 37 && nat_lt 1 left then option_and_then (λ c. lettered store f i left a (capital c)) (byte_of store f (i + 1))
    else plain b) (byte_of store f i)

-- at most n directives of a format, from byte i on
abbrev pub format_rest : ℕ → List ℕ → ℕ → ℕ → ℕ → ℕ → Text
format_rest zero store f i left a = whole_text []
format_rest (suc n) store f i left a =
    if left == 0 then whole_text []
    else option_map_or (λ d. text_then (piece_text store d.piece)
    (format_rest n store f (i + d.bytes) (left - d.bytes) (word_sum a d.arguments))) (directive store f i left a) cut_text

-- a format, which has no more directives than bytes
abbrev pub format_text : List ℕ → ℕ → ℕ → Text
format_text store f a = option_map_or (λ n. format_rest n store f 1 n a) (byte_of store f 0) cut_text

abbrev pub output_text : List ℕ → Output → Text
output_text store (output.Piece piece) = piece_text store piece
output_text store (output.Format f a) = format_text store f a
