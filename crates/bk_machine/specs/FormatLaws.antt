-- A format as a list of parts, and the same format read byte by byte from a store.
use Rattle.std.specs.Prelude.{◌≡◌, ℕ, ◌%◌, ◌<◌, ◌^◌, List, [], ◌∷◌, slice_get}
use Rattle.std.specs.Option.{option_map_or}
use Rattle.bk_base.specs.Word.{word_sum}
use Rattle.bk_base.specs.Format.{FormatPart, Byte, Percent, String, Number, Character, Column, parts}
use Rattle.bk_machine.specs.declared.output.Piece.{Piece}
use Rattle.bk_machine.specs.declared.output.Piece.TheVariants as piece
use Rattle.bk_machine.specs.Output.{Text, whole_text, cut_text, text_then, piece_text, string_text, format_text}

module _ (store : List ℕ) where
  -- a part that takes the argument at an address, and the text after it, from the next argument on
  abbrev pub argument_text : (ℕ → Piece) → (ℕ → Text) → ℕ → Text
  argument_text write following a = option_map_or (λ w. text_then (piece_text store (write w)) (following (word_sum a 1))) (slice_get store a) cut_text

  -- what a format writes, with the arguments from an address on
  abbrev pub parts_text : List FormatPart → ℕ → Text
  parts_text [] a = whole_text []
  parts_text (Byte b ∷ rest) a = text_then (whole_text (b ∷ [])) (parts_text rest a)
  parts_text (Percent ∷ rest) a = text_then (whole_text (37 ∷ [])) (parts_text rest a)
  parts_text (String ∷ rest) a = argument_text (λ w. piece.String w) (λ b. parts_text rest b) a
  parts_text (Number ∷ rest) a = argument_text (λ w. piece.Number w) (λ b. parts_text rest b) a
  parts_text (Character ∷ rest) a = argument_text (λ w. piece.Byte (w % 256)) (λ b. parts_text rest b) a
  parts_text (Column width ∷ rest) a = argument_text (λ w. piece.Aligned w width) (λ b. parts_text rest b) a

-- Where the store holds all bytes of a format, it writes what its parts write.
abbrev pub FormatIsOfParts : Type 0
FormatIsOfParts = (store : List ℕ) (format arguments : ℕ) (bytes : List ℕ) → arguments < 2 ^ 32 → string_text store format ≡ whole_text bytes
    → format_text store format arguments ≡ parts_text store (parts bytes) arguments
