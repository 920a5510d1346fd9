-- Numbers in words of which the first bytes are held.
use Rattle.std.proofs.Common.{◌≢◌, ℕ, ℤ, pos, FitsSigned, w32, ◌<◌, ◌≤◌, ◌^◌, List, ◌∷◌, length, arith, ap}
use Rattle.bk_base.specs.Decimal.{spelling}
use Rattle.bk_words.specs.Numerals.{fits-pos, length-word}

-- a word that is longer than what is held spells no number
pub long_number : (word : List ℕ) → 16 < length word → (z : ℤ) → FitsSigned w32 z → spelling z ≢ word
long_number word long z fits = λ is. absurd (omega (arith, length-word z fits, ap (λ (w : List ℕ). length w) is))

pub long_within : (most : ℕ) → most < 2 ^ 31 → (word : List ℕ) → 16 < length word → (n : ℕ) → n ≤ most → spelling (pos n) ≢ word
long_within most fits word long n low = long_number word long (pos n) (fits-pos n (omega (arith, fits, low)))

pub long_marked : (mark most : ℕ) → most < 2 ^ 31 → (word : List ℕ) → 16 < length word → (n : ℕ) → n ≤ most → mark ∷ spelling (pos n) ≢ word
long_marked mark most fits word long n low = λ is.
    absurd (omega (arith, length-word (pos n) (fits-pos n (omega (arith, fits, low))), ap (λ (w : List ℕ). length w) is))
