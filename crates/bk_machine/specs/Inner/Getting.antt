-- Words got from lists that are joined or set.
use Rattle.std.proofs.Common.{◌≡◌, ◌≢◌, ℕ, zero, suc, ◌+◌, ◌<◌, List, [], ◌∷◌, ◌++◌, length, Some, None, refl, ap, ◌∙◌, arith}
use Rattle.std.specs.Prelude.{slice_get, slice_set, replicate}

-- from the front of a list
pub get_inside : (xs ys : List ℕ) (k : ℕ) → k < length xs → slice_get (xs ++ ys) k ≡ slice_get xs k
get_inside [] ys k lt = absurd (omega (arith, lt))
get_inside (x ∷ xs) ys zero lt = refl
get_inside (x ∷ xs) ys (suc k) lt = get_inside xs ys k (omega (arith, lt))

-- what is there
pub get_front : (xs ys : List ℕ) (k w : ℕ) → slice_get xs k ≡ Some w → slice_get (xs ++ ys) k ≡ Some w
get_front [] ys k w e = absurd (let h : None ≡ Some w = e in cc)
get_front (x ∷ xs) ys zero w e = e
get_front (x ∷ xs) ys (suc k) w e = get_front xs ys k w e

-- from after it
pub get_after : (xs ys : List ℕ) (k : ℕ) → slice_get (xs ++ ys) (length xs + k) ≡ slice_get ys k
get_after [] ys k = ap (λ n. slice_get ys n) (let z : 0 + k ≡ k = omega arith in z)
get_after (x ∷ xs) ys k = ap (λ n. slice_get (x ∷ (xs ++ ys)) n) (let z : suc (length xs) + k ≡ suc (length xs + k) = omega arith in z) ∙ get_after xs ys k

-- from where a word was set
pub get_set_same : (xs : List ℕ) (a v : ℕ) → a < length xs → slice_get (slice_set xs a v) a ≡ Some v
get_set_same [] a v lt = absurd (omega (arith, lt))
get_set_same (x ∷ xs) zero v lt = refl
get_set_same (x ∷ xs) (suc a) v lt = get_set_same xs a v (omega (arith, lt))

-- from elsewhere
pub get_set_other : (xs : List ℕ) (a v k : ℕ) → k ≢ a → slice_get (slice_set xs a v) k ≡ slice_get xs k
get_set_other [] a v k ne = refl
get_set_other (y ∷ xs) zero v zero ne = absurd (ne refl)
get_set_other (y ∷ xs) zero v (suc k) ne = refl
get_set_other (y ∷ xs) (suc a) v zero ne = refl
get_set_other (y ∷ xs) (suc a) v (suc k) ne = get_set_other xs a v k (λ e. ne (ap (λ n. suc n) e))

-- from words that are all the same
pub get_replicate : (n v k : ℕ) → k < n → slice_get (replicate n v) k ≡ Some v
get_replicate zero v k lt = absurd (omega (arith, lt))
get_replicate (suc n) v zero lt = refl
get_replicate (suc n) v (suc k) lt = get_replicate n v k (omega (arith, lt))
