-- What WRITEF writes: each part of its format, with the next argument where the part takes one.
use Rattle.std.specs.Prelude.{ℕ, ◌+◌, ◌%◌, List, [], ◌∷◌, ◌++◌, Option, Some, option_and_then}
use Rattle.std.specs.Option.{option_map}
use Rattle.bk_base.specs.Word.{signed}
use Rattle.bk_base.specs.Decimal.{spelling}
use Rattle.bk_base.specs.Format.{FormatPart, Byte, Percent, String, Number, Character, Column, aligned}

-- bytes, and more after them, where both are known
abbrev pub in_front : Option (List ℕ) → Option (List ℕ) → Option (List ℕ)
in_front reported more = option_and_then (λ t. option_map (λ m. t ++ m) more) reported

-- the arguments by their places, the bytes of a string by its address, and the place of the next argument
module _ (argument : ℕ → Option ℕ) (string : ℕ → Option (List ℕ)) where
  abbrev pub format_bytes : List FormatPart → ℕ → Option (List ℕ)
  format_bytes [] a = Some []
  format_bytes (Byte b ∷ rest) a = in_front (Some (b ∷ [])) (format_bytes rest a)
  format_bytes (Percent ∷ rest) a = in_front (Some (37 ∷ [])) (format_bytes rest a)
  format_bytes (String ∷ rest) a = in_front (option_and_then string (argument a)) (format_bytes rest (a + 1))
  format_bytes (Number ∷ rest) a = in_front (option_map (λ w. spelling (signed w)) (argument a)) (format_bytes rest (a + 1))
  format_bytes (Character ∷ rest) a = in_front (option_map (λ w. w % 256 ∷ []) (argument a)) (format_bytes rest (a + 1))
  format_bytes (Column n ∷ rest) a = in_front (option_map (λ w. aligned w n) (argument a)) (format_bytes rest (a + 1))
