-- Laws of the spellings of numbers, for the crates above.
use Rattle.std.proofs.Common.{◌≡◌, ◌≢◌, ℕ, ◌<◌, ◌≤◌, ◌^◌, ◌++◌, ◌==◌, ◌||◌, Bool, true, false, pos, negsuc, ℤ, FitsSigned, w32, List, [], ◌∷◌, length, get_or, suc, arith, refl, sym, ap, ◌∙◌, ◌⊎◌, inl, inr, nat_eq, eq-eqb}
use lib.Signed.{mag}
use Rattle.std.specs.Int.{IsInRange}
use Rattle.std.specs.Fmt.{decimal}
use Rattle.std.proofs.lemmas.Fmt.{length-decimal-le, length_signed_le, digits_decimal, decimal_nonempty, decimal_injective}
use Rattle.std.proofs.lemmas.Str.Parse.{numerals_by_value, tells_by_index}
use Rattle.std.proofs.lemmas.Bool.{ne_eqb}
use Rattle.bk_base.specs.Decimal.{spelling}
use Rattle.bk_words.specs.Words.{is_blank, AreInWord}

-- the number of a global has three digits at most
pub length-global : (n : ℕ) → n ≤ 999 → length (spelling (pos n)) ≤ 3
length-global n small = length-decimal-le 3 n (omega arith) (omega arith) (omega arith)

-- each byte of a numeral is a digit
pub digit-at : (n : ℕ) → n < 2 ^ 64 → (i : ℕ) → i < length (decimal n) → IsInRange 48 57 (get_or (decimal n) i 0)
digit-at n small = digits_decimal (numerals_by_value _ tells_by_index) n small

pub mag-fits : (z : ℤ) → FitsSigned w32 z → mag z < 2 ^ 63
mag-fits z fits = let h : mag z < 2 ^ 31 = fits.sfits in omega arith

pub fits-pos : (n : ℕ) → n < 2 ^ 31 → FitsSigned w32 (pos n)
fits-pos n small = record { sfits = small }

-- a spelling begins with a digit or `-`
pub first-numeral : (n : ℕ) → n < 2 ^ 64 → (b : ℕ) (rest : List ℕ) → decimal n ≡ b ∷ rest → (48 ≤ b) × (b ≤ 57)
first-numeral n small b rest is =
    let some : 0 < length (decimal n) = decimal_nonempty n small in
    let first : get_or (decimal n) 0 0 ≡ b = ap (λ l. get_or l 0 0) is in
    let digit : IsInRange 48 57 (get_or (decimal n) 0 0) = digit-at n small 0 some in
    (omega (arith, first, digit.0), omega (arith, first, digit.1))

pub first-spelling : (z : ℤ) → FitsSigned w32 z → (b : ℕ) (rest : List ℕ) → spelling z ≡ b ∷ rest → (b ≡ 45) ⊎ ((48 ≤ b) × (b ≤ 57))
first-spelling (pos n) fits b rest is = let h : mag (pos n) < 2 ^ 63 = mag-fits (pos n) fits in inr (first-numeral n (omega arith) b rest is)
first-spelling (negsuc n) fits b rest is = inl (let h : 45 ∷ decimal (suc n) ≡ b ∷ rest = is in cc)

-- what a number outside of bounds spells, no number within them spells
pub no_number-outside : (m least most : ℕ) (bytes : List ℕ) → m < 2 ^ 31 → most < 2 ^ 31 → spelling (pos m) ≡ bytes → (m < least) ⊎ (most < m) → (n : ℕ) → least ≤ n → n ≤ most → spelling (pos n) ≢ bytes
no_number-outside m least most bytes small bound is outside n low high = λ again.
    let same : m ≡ n = decimal_injective m n (omega arith) (omega arith) (is ∙ sym again) in
    elim outside [ inl h ↦ absurd (omega arith) | inr h ↦ absurd (omega arith) ]

-- what neither digit nor `-` begins, no number spells
pub no_spelling : (b : ℕ) (rest : List ℕ) → (b ≡ 45 → ⊥) → ((48 ≤ b) × (b ≤ 57) → ⊥) → (z : ℤ) → FitsSigned w32 z → spelling z ≢ b ∷ rest
no_spelling b rest sign digit z fits = λ is. elim (first-spelling z fits b rest is) [ inl h ↦ sign h | inr h ↦ digit h ]

-- a spelling is not empty
pub spelling-some : (z : ℤ) → FitsSigned w32 z → spelling z ≢ []
spelling-some (pos n) fits = λ is.
    let h : mag (pos n) < 2 ^ 63 = mag-fits (pos n) fits in
    let some : 0 < length (decimal n) = decimal_nonempty n (omega arith) in
    absurd (omega (arith, some, ap (λ (l : List ℕ). length l) is))
spelling-some (negsuc n) fits = λ is. let h : 45 ∷ decimal (suc n) ≡ [] = is in cc

-- two lists with other first bytes
pub apart : (a b : ℕ) (x y : List ℕ) → nat_eq a b ≡ false → a ∷ x ≢ b ∷ y
apart a b x y other = λ is. let same : a ≡ b = cc in let yes : nat_eq a b ≡ true = eq-eqb a b same in cc

pub rest_same : (a : ℕ) (x y : List ℕ) → a ∷ x ≡ a ∷ y → x ≡ y
rest_same a x y is = cc

-- the byte after a list
pub at_seam : (a b : List ℕ) → get_or (a ++ 76 ∷ b) (length a) 0 ≡ 76
at_seam [] b = refl
at_seam (x ∷ a) b = at_seam a b

-- no spelling is long
pub length-word : (z : ℤ) → FitsSigned w32 z → length (spelling z) ≤ 11
length-word z fits = let h : mag z < 2 ^ 31 = fits.sfits in length_signed_le 10 z (omega arith) (omega arith)

-- no spelling has a blank
no_blank : (p q r s t : Bool) → p ≡ false → q ≡ false → r ≡ false → s ≡ false → t ≡ false → (p || q || r || s || t) ≡ false
no_blank p q r s t a b c d e = rw (a, b, c, d, e) refl

digit-inside : (b : ℕ) → 48 ≤ b → b ≤ 57 → is_blank b ≡ false
digit-inside b low high =
    no_blank (b == 32) (b == 9) (b == 10) (b == 12) (b == 13)
    (ne_eqb b 32 (λ is. absurd (omega (arith, low, is)))) (ne_eqb b 9 (λ is. absurd (omega (arith, low, is)))) (ne_eqb b 10 (λ is. absurd (omega (arith, low, is))))
    (ne_eqb b 12 (λ is. absurd (omega (arith, low, is)))) (ne_eqb b 13 (λ is. absurd (omega (arith, low, is))))

digits-inside : (ds : List ℕ) → ((i : ℕ) → i < length ds → IsInRange 48 57 (get_or ds i 0)) → AreInWord ds
digits-inside [] digits = tt
digits-inside (d ∷ ds) digits =
    let first : IsInRange 48 57 d = digits 0 (omega arith) in
    (digit-inside d first.0 first.1, digits-inside ds (λ i low. digits (suc i) (omega arith)))

pub numeral-inside : (n : ℕ) → n < 2 ^ 64 → AreInWord (decimal n)
numeral-inside n small = digits-inside (decimal n) (digit-at n small)

pub spelling-inside : (z : ℤ) → FitsSigned w32 z → AreInWord (spelling z)
spelling-inside (pos n) fits = let h = mag-fits (pos n) fits in numeral-inside n (omega (arith, h))
spelling-inside (negsuc n) fits = let h = mag-fits (negsuc n) fits in (refl, numeral-inside (suc n) (omega (arith, h)))
