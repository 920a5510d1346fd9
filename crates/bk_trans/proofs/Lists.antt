-- Lists: what holds of each element, what changes none, sums over the elements, and what is found by a number that no two of them have.
use Rattle.bk_trans.proofs.Terms.{◌≡◌, ℕ, zero, suc, slice_get, subst, None, ◌+◌, ◌≤◌, ◌==◌, Bool, true, false, cond, Some, List, [], ◌∷◌, ◌++◌, map, refl, ap, ◌∙◌, arith, eq-eqb}
use Rattle.std.specs.Bool.{⊤}
use Rattle.bk_ocode.specs.Typing.{sets}

abbrev pub Every : {A : Type 0} → (A → Type 0) → List A → Type 0
Every P [] = ⊤
Every P (x ∷ xs) = P x × Every P xs

pub every_front : {A : Type 0} (P : A → Type 0) (xs ys : List A) → Every P (xs ++ ys) → Every P xs
every_front P [] ys h = tt
every_front P (x ∷ xs) ys h = (h.0, every_front P xs ys h.1)

pub every_back : {A : Type 0} (P : A → Type 0) (xs ys : List A) → Every P (xs ++ ys) → Every P ys
every_back P [] ys h = h
every_back P (x ∷ xs) ys h = every_back P xs ys h.1

pub every_both : {A : Type 0} (P : A → Type 0) (xs ys : List A) → Every P xs → Every P ys → Every P (xs ++ ys)
every_both P [] ys h i = i
every_both P (x ∷ xs) ys h i = (h.0, every_both P xs ys h.1 i)

pub every_at : {A : Type 0} (P : A → Type 0) (xs : List A) → Every P xs → (k : ℕ) (x : A) → slice_get xs k ≡ Some x → P x
every_at P [] h k x e = absurd (let n : None ≡ Some x = e in cc)
every_at P (y ∷ ys) h zero x e = subst P (let n : Some y ≡ Some x = e in cc) h.0
every_at P (y ∷ ys) h (suc k) x e = every_at P ys h.1 k x e

pub map_same : {A : Type 0} (f : A → A) (xs : List A) → ((k : ℕ) (x : A) → slice_get xs k ≡ Some x → f x ≡ x) → map f xs ≡ xs
map_same f [] h = refl
map_same f (x ∷ xs) h = ap (λ y. y ∷ map f xs) (h zero x refl) ∙ ap (λ ys. x ∷ ys) (map_same f xs (λ k y e. h (suc k) y e))

abbrev pub total : {A : Type 0} → (A → ℕ) → List A → ℕ
total f [] = 0
total f (x ∷ xs) = f x + total f xs

pub total_both : {A : Type 0} (f : A → ℕ) (xs ys : List A) → total f (xs ++ ys) ≡ total f xs + total f ys
total_both f [] ys = omega arith
total_both f (x ∷ xs) ys = omega (arith, total_both f xs ys)

-- A list is looked through for the first element that has a number.
module _ {A B : Type 0} (number : A → ℕ) (value : A → B) (look : List A → ℕ → B) (first : (x : A) (xs : List A) (k : ℕ) → look (x ∷ xs) k ≡ cond (number x == k) (value x) (look xs k)) where
  found_past : (x : A) (xs ys : List A) → total (λ y. sets (number x) (Some (number y))) ys ≡ 0 → Every (λ y. look xs (number y) ≡ value y) ys → Every (λ y. look (x ∷ xs) (number y) ≡ value y) ys
  found_past x xs [] none h = tt
  found_past x xs (y ∷ ys) none h = (pick (number x == number y) refl, found_past x xs ys (omega (arith, none)) h.1)
    where
      pick : (q : Bool) → (number x == number y) ≡ q → look (x ∷ xs) (number y) ≡ value y
      pick true e = let one : sets (number x) (Some (number y)) ≡ 1 = ap (λ (b : Bool). cond b 1 0) e in absurd (omega (arith, none, one))
      pick false e = first x xs (number y) ∙ ap (λ (b : Bool). cond b (value x) (look xs (number y))) e ∙ h.0

  pub all_found : (xs : List A) → ((k : ℕ) → total (λ x. sets k (Some (number x))) xs ≤ 1) → Every (λ x. look xs (number x) ≡ value x) xs
  all_found [] h = tt
  all_found (x ∷ xs) h =
      let same = eq-eqb (number x) (number x) refl in
      let one : sets (number x) (Some (number x)) ≡ 1 = ap (λ (b : Bool). cond b 1 0) same in
      let low = h (number x) in (
        first x xs (number x) ∙ ap (λ (b : Bool). cond b (value x) (look xs (number x))) same,
        found_past x xs xs (omega (arith, one, low)) (all_found xs (λ k. let g = h k in omega (arith, g))),
      )
