-- What a table says of labels, where its list becomes longer, or one label is changed.
use Rattle.bk_ocode.proofs.Terms.{◌≡◌, ◌≢◌, ◌⊎◌, inl, inr, ℕ, zero, suc, ◌<◌, ◌≤◌, ◌==◌, true, false, Option, Some, List, [], ◌∷◌, ◌++◌, length, set, if◌then◌else◌, refl, sym, ap, ◌∙◌, arith, eqb_tells, slice_get_past, LabelUse, fresh, use_or, slice_get, eq-eqb}

-- one label more in the list, of which the same is known
pub lowered : (h : ℕ → LabelUse) (xs : List LabelUse) (x : LabelUse) (n : ℕ) → n ≡ length xs → x ≡ h n → (j : ℕ) → use_or (h j) (slice_get (xs ++ x ∷ []) j) ≡ use_or (h j) (slice_get xs j)
lowered h [] x n at is zero = let e : n ≡ 0 = at in cc
lowered h [] x n at is (suc j) = refl
lowered h (y ∷ ys) x n at is zero = refl
lowered h (y ∷ ys) x zero at is (suc j) = absurd cc
lowered h (y ∷ ys) x (suc n) at is (suc j) = lowered (λ i. h (suc i)) ys x n (cc) is j

set_there : (xs : List LabelUse) (x : LabelUse) (l : ℕ) → l < length xs → slice_get (set xs l x) l ≡ Some x
set_there [] x l low = absurd (omega (arith, low))
set_there (y ∷ ys) x zero low = refl
set_there (y ∷ ys) x (suc l) low = set_there ys x l (omega (arith, low))

set_beside : (xs : List LabelUse) (x : LabelUse) (l j : ℕ) → j ≢ l → slice_get (set xs l x) j ≡ slice_get xs j
set_beside [] x zero j other = refl
set_beside (y ∷ ys) x zero zero other = absurd (other refl)
set_beside (y ∷ ys) x (suc l) (suc j) other = set_beside ys x l j (λ e. other (ap suc e))
set_beside z x u v other = refl

differ : (a b : ℕ) → a ≢ b → (a == b) ≡ false
differ a b other = grind arith

-- a label of the list is changed
pub low_set : (xs : List LabelUse) (x d : LabelUse) (l j : ℕ) → l < length xs → use_or d (slice_get (set xs l x) j) ≡ (if j == l then x else use_or d (slice_get xs j))
low_set xs x d l j low = grind (arith, set_there, set_beside)

-- a label beside the list is changed
pub high_set : (xs : List LabelUse) (old new : ℕ → Option LabelUse) (l : ℕ) (x : LabelUse) → length xs ≤ l → ((j : ℕ) → new j ≡ (if l == j then Some x else old j)) → (j : ℕ)
    → use_or (use_or fresh (new j)) (slice_get xs j) ≡ (if j == l then x else use_or (use_or fresh (old j)) (slice_get xs j))
high_set xs old new l x low at j = by (eqb_tells j l)
  where
    by : (((j == l) ≡ true) × (j ≡ l)) ⊎ (((j == l) ≡ false) × (j ≢ l)) → use_or (use_or fresh (new j)) (slice_get xs j) ≡ (if j == l then x else use_or (use_or fresh (old j)) (slice_get xs j))
    by (inl p) =
        ap (λ (o : Option LabelUse). use_or (use_or fresh (new j)) o) (slice_get_past xs j (omega (arith, low, p.1)))
        ∙ ap (λ (o : Option LabelUse). use_or fresh o) (at j ∙ ap (λ b. if b then Some x else old j) (eq-eqb l j (sym p.1)))
        ∙ sym (ap (λ b. if b then x else use_or (use_or fresh (old j)) (slice_get xs j)) p.0)
    by (inr p) =
        ap (λ (o : Option LabelUse). use_or (use_or fresh o) (slice_get xs j)) (at j ∙ ap (λ b. if b then Some x else old j) (differ l j (λ e. p.1 (sym e))))
        ∙ sym (ap (λ b. if b then x else use_or (use_or fresh (old j)) (slice_get xs j)) p.0)
