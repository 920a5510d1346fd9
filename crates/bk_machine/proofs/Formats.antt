-- A format in a store, and its parts.
use Rattle.bk_machine.proofs.Terms.{◌≡◌, ℕ, zero, suc, ◌+◌, ◌-◌, ◌<◌, ◌≤◌, ◌^◌, ◌%◌, ◌==◌, nat_lt, nat_le, arith, Bool, true, false, ◌&&◌, List, [], ◌∷◌, length, drop, Option, Some, None, slice_get, refl, sym, ap, ◌∙◌, subst, if◌then◌else◌, eqb-true, nat_tests, length-drop, ⊤, option_and_then, word_sum, Directive, Text, whole_text, cut_text, text_then, byte_of, string_rest, piece_text, plain, with_argument, aligning, lettered, directive, format_rest, format_text, Piece, Piece as piece}
use Rattle.std.proofs.Math.Dec.{eqb-suc-zero}
use Rattle.std.specs.Option.{option_map, option_map_or}
use Rattle.bk_base.specs.Format.{FormatPart, Byte, Percent, String, Number, Character, Column, capital, is_digit, column_or_percent, directive as part_behind_percent, part_at, further, parts_after, parts}
use Rattle.bk_machine.specs.FormatLaws.{parts_text, FormatIsOfParts}

module _ (store : List ℕ) (f : ℕ) where
  -- these bytes stand in the string from byte i on
  abbrev Held : ℕ → List ℕ → Type 0
  Held i [] = ⊤
  Held i (b ∷ rest) = (byte_of store f i ≡ Some b) × Held (i + 1) rest

  -- what the code's directive is for a part
  abbrev directive_of : ℕ → FormatPart → Option Directive
  directive_of a (Byte b) = plain b
  directive_of a Percent = Some (record { piece = piece.Byte 37; bytes = 2; arguments = 0 })
  directive_of a String = with_argument store a (λ w. piece.String w) 2
  directive_of a Number = with_argument store a (λ w. piece.Number w) 2
  directive_of a Character = with_argument store a (λ w. piece.Byte (w % 256)) 2
  directive_of a (Column width) = with_argument store a (λ w. piece.Aligned w width) 3

  -- ---- one directive

  digit : (a d : ℕ) (is : Bool) → (if is then with_argument store a (λ w. piece.Aligned w (d - 48)) 3 else plain 37)
      ≡ directive_of a (if is then Column (d - 48) else Byte 37)
  digit a d true = refl
  digit a d false = refl

  column : (i a : ℕ) (rest : List ℕ) → Held i rest → aligning store f i (length rest) a ≡ directive_of a (column_or_percent rest)
  column i a [] held = refl
  column i a (d ∷ rest) held =
      ap (λ none. if none then plain 37
      else option_and_then (λ e. if is_digit e then with_argument store a (λ w. piece.Aligned w (e - 48)) 3 else plain 37) (byte_of store f i))
      (eqb-suc-zero (length rest))
      ∙ ap (λ t. option_and_then (λ e. if is_digit e then with_argument store a (λ w. piece.Aligned w (e - 48)) 3 else plain 37) t) held.0
      ∙ digit a d (is_digit d)

  by_letter : (a : ℕ) (code : Option Directive) (following : FormatPart) → code ≡ directive_of a following → (s n c i p q : Bool) → p ≡ q
      → (if s then with_argument store a (λ w. piece.String w) 2 else
      if n then with_argument store a (λ w. piece.Number w) 2 else
      if c then with_argument store a (λ w. piece.Byte (w % 256)) 2 else
      if i then code else
      if p then Some (record { piece = piece.Byte 37; bytes = 2; arguments = 0 }) else plain 37)
      ≡ directive_of a (if s then String else if n then Number else if c then Character else if i then following else if q then Percent else Byte 37)
  by_letter a code following is false false false true p q same = is
  by_letter a code following is false false false false true false same = cc
  by_letter a code following is false false false false false true same = cc
  by_letter a code following is x y z u v w same = refl

  percent_sign : (c : ℕ) → (capital c == 37) ≡ (c == 37)
  percent_sign c = by_case (nat_le 97 c && nat_le c 122) refl
    where
      by_case : (small : Bool) → (nat_le 97 c && nat_le c 122) ≡ small → ((if small then c - 32 else c) == 37) ≡ (c == 37)
      by_case false is = refl
      by_case true is = grind (arith, nat_tests)

  letter : (i a c : ℕ) (rest : List ℕ) → Held (i + 2) rest
      → lettered store f i (suc (suc (length rest))) a (capital c) ≡ directive_of a (part_behind_percent (c ∷ rest))
  letter i a c rest held =
      let left : suc (suc (length rest)) - 2 ≡ length rest = omega arith in
      let code = ap (λ n. aligning store f (i + 2) n a) left ∙ column (i + 2) a rest held in
      by_letter a (aligning store f (i + 2) (suc (suc (length rest)) - 2) a) (column_or_percent rest) code
      (capital c == 83) (capital c == 78) (capital c == 67) (capital c == 73) (capital c == 37) (c == 37) (percent_sign c)

  two_left : (n : ℕ) → nat_lt 1 (suc (suc n)) ≡ true
  two_left n = grind (arith, nat_tests)

  -- the directive at a byte is that of the part that the byte begins
  percent : (i a : ℕ) (rest : List ℕ) → Held (i + 1) rest
      → (if nat_lt 1 (suc (length rest)) then option_and_then (λ c. lettered store f i (suc (length rest)) a (capital c)) (byte_of store f (i + 1)) else plain 37)
      ≡ directive_of a (part_behind_percent rest)
  percent i a [] held = refl
  percent i a (c ∷ rest) held =
      let next : i + 1 + 1 ≡ i + 2 = omega arith in
      ap (λ more. if more then option_and_then (λ c. lettered store f i (suc (suc (length rest))) a (capital c)) (byte_of store f (i + 1)) else plain 37)
      (two_left (length rest))
      ∙ ap (λ t. option_and_then (λ c. lettered store f i (suc (suc (length rest))) a (capital c)) t) held.0
      ∙ letter i a c rest (subst (λ j. Held j rest) next held.1)

  met : (i a b : ℕ) (rest : List ℕ) → Held i (b ∷ rest) → directive store f i (suc (length rest)) a ≡ directive_of a (part_at b rest)
  met i a b rest held =
      ap (λ t. option_and_then (λ b. if b == 37 && nat_lt 1 (suc (length rest))
      then option_and_then (λ c. lettered store f i (suc (length rest)) a (capital c)) (byte_of store f (i + 1)) else plain b) t) held.0
      ∙ by_sign (b == 37) refl
    where
      by_sign : (is : Bool) → (b == 37) ≡ is
          → (if is && nat_lt 1 (suc (length rest)) then option_and_then (λ c. lettered store f i (suc (length rest)) a (capital c)) (byte_of store f (i + 1)) else plain b)
          ≡ directive_of a (if is then part_behind_percent rest else Byte b)
      by_sign false is = refl
      by_sign true is = ap (λ n. if nat_lt 1 (suc (length rest)) then option_and_then (λ c. lettered store f i (suc (length rest)) a (capital c)) (byte_of store f (i + 1)) else plain n) (eqb-true b 37 is)
          ∙ percent i a rest held.1

  -- ---- all of them

  held_drop : (k i : ℕ) (bytes : List ℕ) → Held i bytes → Held (i + k) (drop k bytes)
  held_drop zero i bytes held = let same : i + 0 ≡ i = omega arith in subst (λ j. Held j bytes) (sym same) held
  held_drop (suc k) i [] held = tt
  held_drop (suc k) i (b ∷ rest) held =
      let same : i + 1 + k ≡ i + suc k = omega arith in
      subst (λ j. Held j (drop k rest)) same (held_drop k (i + 1) rest held.1)

  skipped : (k : ℕ) (bytes : List ℕ) → parts_after k bytes ≡ parts_after 0 (drop k bytes)
  skipped zero bytes = refl
  skipped (suc k) [] = refl
  skipped (suc k) (b ∷ rest) = skipped k rest

  -- what a directive writes, and n directives at most behind it
  abbrev told_by : ℕ → ℕ → ℕ → List ℕ → Option Directive → Text
  told_by n i a rest d = option_map_or (λ d. text_then (piece_text store d.piece)
      (format_rest n store f (i + d.bytes) (suc (length rest) - d.bytes) (word_sum a d.arguments))) d cut_text

  module _ (n i a : ℕ) (rest : List ℕ)
      (ih : (k arguments : ℕ) → format_rest n store f (i + suc k) (suc (length rest) - suc k) (word_sum a arguments)
      ≡ parts_text store (parts_after k rest) (word_sum a arguments)) (low : word_sum a 0 ≡ a) where
    on_argument : (write : ℕ → Piece) (k : ℕ) (word : Option ℕ)
        → told_by n i a rest (option_map (λ w. record { piece = write w; bytes = suc k; arguments = 1 }) word)
        ≡ option_map_or (λ w. text_then (piece_text store (write w)) (parts_text store (parts_after k rest) (word_sum a 1))) word cut_text
    on_argument write k None = refl
    on_argument write k (Some w) = ap (λ t. text_then (piece_text store (write w)) t) (ih k 1)

    on_byte : (b k : ℕ) → told_by n i a rest (Some (record { piece = piece.Byte b; bytes = suc k; arguments = 0 }))
        ≡ text_then (whole_text (b ∷ [])) (parts_text store (parts_after k rest) a)
    on_byte b k = ap (λ t. text_then (whole_text (b ∷ [])) t) (ih k 0 ∙ ap (λ w. parts_text store (parts_after k rest) w) low)

    on_part : (part : FormatPart) → told_by n i a rest (directive_of a part) ≡ parts_text store (part ∷ parts_after (further part) rest) a
    on_part (Byte b) = on_byte b 0
    on_part Percent = on_byte 37 1
    on_part String = on_argument (λ w. piece.String w) 1 (slice_get store a)
    on_part Number = on_argument (λ w. piece.Number w) 1 (slice_get store a)
    on_part Character = on_argument (λ w. piece.Byte (w % 256)) 1 (slice_get store a)
    on_part (Column width) = on_argument (λ w. piece.Aligned w width) 2 (slice_get store a)

  text_is : (n i a : ℕ) (bytes : List ℕ) → length bytes ≤ n → a < 2 ^ 32 → Held i bytes
      → format_rest n store f i (length bytes) a ≡ parts_text store (parts bytes) a
  text_is zero i a [] few low held = refl
  text_is zero i a (b ∷ rest) few low held = absurd (omega arith)
  text_is (suc n) i a [] few low held = refl
  text_is (suc n) i a (b ∷ rest) few low held =
      ap (λ none. if none then whole_text [] else told_by n i a rest (directive store f i (suc (length rest)) a)) (eqb-suc-zero (length rest))
      ∙ ap (λ d. told_by n i a rest d) (met i a b rest held)
      ∙ on_part n i a rest
      (λ k arguments.
      let left : length (drop k rest) ≡ suc (length rest) - suc k = length-drop k rest ∙ (let e : length rest - k ≡ suc (length rest) - suc k = omega arith in e) in
      let place : i + 1 + k ≡ i + suc k = omega arith in
      let fewer : length (drop k rest) ≤ n = omega arith in
      ap (λ l. format_rest n store f (i + suc k) l (word_sum a arguments)) (sym left)
      ∙ text_is n (i + suc k) (word_sum a arguments) (drop k rest) fewer (let word : (a + arguments) % 2 ^ 32 < 2 ^ 32 = omega arith in word)
      (subst (λ j. Held j (drop k rest)) place (held_drop k (i + 1) rest held.1))
      ∙ ap (λ ps. parts_text store ps (word_sum a arguments)) (sym (skipped k rest)))
      (let same : (a + 0) % 2 ^ 32 ≡ a = omega arith in same) (part_at b rest)

  held_string : (n i : ℕ) (bytes : List ℕ) → string_rest n store f i ≡ whole_text bytes → (n ≡ length bytes) × Held i bytes
  held_string zero i [] is = (refl, tt)
  held_string zero i (b ∷ rest) is = let e : [] ≡ b ∷ rest = ap (λ (t : Text). t.bytes) is in absurd cc
  held_string (suc n) i bytes is = by_byte (λ rest same. held_string n (i + 1) rest same) (byte_of store f i) refl
    where
      by_byte : ((rest : List ℕ) → string_rest n store f (i + 1) ≡ whole_text rest → (n ≡ length rest) × Held (i + 1) rest)
          → (byte : Option ℕ) → byte_of store f i ≡ byte → (suc n ≡ length bytes) × Held i bytes
      by_byte ih None missing =
          let e = ap (λ t. option_map_or (λ b. text_then (whole_text (b ∷ [])) (string_rest n store f (i + 1))) t cut_text) (sym missing) ∙ is in
          let differ : false ≡ true = ap (λ (t : Text). t.whole) e in absurd cc
      by_byte ih (Some b) found =
          let e = ap (λ t. option_map_or (λ b. text_then (whole_text (b ∷ [])) (string_rest n store f (i + 1))) t cut_text) (sym found) ∙ is in
          let parts : b ∷ (string_rest n store f (i + 1)).bytes ≡ bytes = ap (λ (t : Text). t.bytes) e in
          let whole : (string_rest n store f (i + 1)).whole ≡ true = ap (λ (t : Text). t.whole) e in
          let rest = ih (string_rest n store f (i + 1)).bytes (ap (λ w. record { bytes = (string_rest n store f (i + 1)).bytes; whole = w }) whole) in
          let length_is : suc n ≡ length bytes = ap (λ k. suc k) rest.0 ∙ ap (λ (l : List ℕ). length l) parts in
          (length_is, subst (λ l. Held i l) parts (found, rest.1))

pub format_is_of_parts : FormatIsOfParts
format_is_of_parts store format arguments bytes low is = by_length (byte_of store format 0) refl
  where
    by_length : (byte : Option ℕ) → byte_of store format 0 ≡ byte → format_text store format arguments ≡ parts_text store (parts bytes) arguments
    by_length None missing =
        let e = ap (λ t. option_map_or (λ n. string_rest n store format 1) t cut_text) (sym missing) ∙ is in
        let differ : false ≡ true = ap (λ (t : Text). t.whole) e in absurd cc
    by_length (Some n) found =
        let e = ap (λ t. option_map_or (λ n. string_rest n store format 1) t cut_text) (sym found) ∙ is in
        let held = held_string store format n 1 bytes e in
        ap (λ t. option_map_or (λ n. format_rest n store format 1 n arguments) t cut_text) found
        ∙ ap (λ l. format_rest n store format 1 l arguments) held.0
        ∙ text_is store format n 1 arguments bytes (let few : length bytes ≤ n = omega arith in few) low held.1
