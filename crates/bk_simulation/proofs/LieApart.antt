-- What lasts of a program lies apart: two objects with words have different bases.
use Rattle.bk_simulation.proofs.Forms.{by_option, with_names, data_with, data_both, data_is, with_base, base_both, Setting, ◌≡◌, ℕ, zero, suc, ◌+◌, ◌≤◌, Bool, true, false, cond, List, [], ◌∷◌, Option, Some, None, slice_get, eq-eqb, refl, sym, ap, ◌∙◌, subst, arith, Declarations, Placed, Program, Datum, is_in, all_data, data_of, objects_of_declarations, Lasting, global_vector, words, code, of_declarations, of_sections}
use Rattle.bk_simulation.proofs.LastingFits.{HasWords}
use Rattle.bk_simulation.proofs.SectionsLie.{SectionsLie, HasAll, all_bases, others_suit, first_suits, no_names, none_mean}
use Rattle.bk_simulation.proofs.ProgramLaid.{Together, LieApart, pay_of, own_bases, lie_together, setting_together, has_all}

-- ---- all sections

all_once : (setting : Setting) (pay k i : ℕ) (sections : List Declarations) (owns : List Placed) (h : SectionsLie pay k i sections owns) → HasAll setting pay k i sections owns h → (q : ℕ) → with_base q (of_sections i sections) (all_bases pay k i sections owns h) ≤ data_with q (all_data owns)
all_once setting pay k i [] owns h a q = omega arith
all_once setting pay k i (ds ∷ rest) [] h a q = absurd h
all_once setting pay k i (ds ∷ rest) (own ∷ others) h a q =
    let n : ℕ = i + objects_of_declarations ds in
    let one = h.0.is.once setting (first_suits setting pay k i ds rest own others h a) [] no_names (none_mean setting k own ds pay) q in
    let more = all_once setting pay (suc k) n rest others h.1 (others_suit setting pay k i ds rest own others h a) q in
    let both = base_both q (of_declarations (with_names [] i) ds) (of_sections n rest) h.0.is.bases (all_bases pay (suc k) n rest others h.1) (h.0.is.count [] ∙ sym h.0.is.all) in
    omega (arith, one, h.0.less q, data_is own q own.stmts, more, both, data_both q (data_of own.places own.stmts) (all_data others))

-- ---- data of a program lie apart

found : (a : ℕ) (ds : List Datum) → 1 ≤ data_with a ds → (i : ℕ) × (d : Datum) × (slice_get ds i ≡ Some d) × (is_in a d ≡ true)
found a [] h = absurd (omega (arith, h))
found a (d ∷ ds) h = by_test (is_in a d) refl h (λ k. found a ds k)
  where
    by_test : (q : Bool) → is_in a d ≡ q → 1 ≤ cond q 1 0 + data_with a ds → (1 ≤ data_with a ds → (i : ℕ) × (e : Datum) × (slice_get ds i ≡ Some e) × (is_in a e ≡ true))
        → (i : ℕ) × (e : Datum) × (slice_get (d ∷ ds) i ≡ Some e) × (is_in a e ≡ true)
    by_test true e h more = (0, d, refl, e)
    by_test false e h more = let r = more (omega (arith, h)) in (suc r.0, r.1, r.2, r.3)

one_at_most : (a : ℕ) (ds : List Datum) → ((i j : ℕ) (d e : Datum) → slice_get ds i ≡ Some d → slice_get ds j ≡ Some e → is_in a d ≡ true → is_in a e ≡ true → i ≡ j) → data_with a ds ≤ 1
one_at_most a [] f = omega arith
one_at_most a (d ∷ ds) f =
    by_test (is_in a d) refl (data_with a ds) refl (one_at_most a ds (λ i j d1 d2 x y u v. let z = f (suc i) (suc j) d1 d2 x y u v in omega (arith, z)))
  where
    by_test : (q : Bool) → is_in a d ≡ q → (n : ℕ) → data_with a ds ≡ n → data_with a ds ≤ 1 → cond q 1 0 + n ≤ 1
    by_test true e zero k h = omega arith
    by_test true e (suc n) k h = let r = found a ds (omega (arith, k)) in let z = f 0 (suc r.0) d r.1 refl r.2 e r.3 in absurd (omega (arith, z))
    by_test false e n k h = omega (arith, h, k)

-- ---- the program

first_base : (q v : ℕ) (x : Lasting) (xs : List Lasting) (vs : List ℕ) → HasWords (Some x) → v ≡ q → with_base q (x ∷ xs) (v ∷ vs) ≡ 1 + with_base q xs vs
first_base q v (words []) xs vs h e = absurd h
first_base q v (words (y ∷ ys)) xs vs h e = ap (λ (z : Bool). cond z 1 0 + with_base q xs vs) (eq-eqb v q e)
first_base q v (code f) xs vs h e = grind (arith, by_option, eq-eqb)
first_base q v global_vector xs vs h e = absurd h

less_base : (q v : ℕ) (x : Lasting) (xs : List Lasting) (vs : List ℕ) → with_base q xs vs ≤ with_base q (x ∷ xs) (v ∷ vs)
less_base q v (words []) xs vs = omega arith
less_base q v (words (y ∷ ys)) xs vs = omega arith
less_base q v (code f) xs vs = omega arith
less_base q v global_vector xs vs = omega arith

-- an object with words, and its base
abbrev IsThere : ℕ → List Lasting → List ℕ → ℕ → Type 0
IsThere q xs vs o = (x : Lasting) × (slice_get xs o ≡ Some x) × HasWords (Some x) × (slice_get vs o ≡ Some q)

here_base : (q v : ℕ) (x : Lasting) (xs : List Lasting) (vs : List ℕ) → IsThere q (x ∷ xs) (v ∷ vs) 0 → with_base q (x ∷ xs) (v ∷ vs) ≡ 1 + with_base q xs vs
here_base q v x xs vs h = grind (arith, first_base)

some_base : (q : ℕ) (xs : List Lasting) (vs : List ℕ) (o : ℕ) → IsThere q xs vs o → 1 ≤ with_base q xs vs
some_base q [] vs o h = absurd (let z : None ≡ Some h.0 = h.1 in cc)
some_base q (x ∷ xs) [] o h = absurd (let z : None ≡ Some q = h.3 in cc)
some_base q (x ∷ xs) (v ∷ vs) zero h = let n = here_base q v x xs vs h in omega (arith, n)
some_base q (x ∷ xs) (v ∷ vs) (suc o) h = let n = some_base q xs vs o h in let l = less_base q v x xs vs in omega (arith, n, l)

one_object : (q : ℕ) (xs : List Lasting) (vs : List ℕ) (o o1 : ℕ) → with_base q xs vs ≤ 1 → IsThere q xs vs o → IsThere q xs vs o1 → o ≡ o1
one_object q [] vs o o1 le h h1 = absurd (let z : None ≡ Some h.0 = h.1 in cc)
one_object q (x ∷ xs) [] o o1 le h h1 = absurd (let z : None ≡ Some q = h.3 in cc)
one_object q (x ∷ xs) (v ∷ vs) zero zero le h h1 = refl
one_object q (x ∷ xs) (v ∷ vs) (suc o) (suc o1) le h h1 = let l = less_base q v x xs vs in ap suc (one_object q xs vs o o1 (omega (arith, le, l)) h h1)
one_object q (x ∷ xs) (v ∷ vs) zero (suc o1) le h h1 = let n = here_base q v x xs vs h in let m = some_base q xs vs o1 h1 in absurd (omega (arith, le, n, m))
one_object q (x ∷ xs) (v ∷ vs) (suc o) zero le h h1 = let n = here_base q v x xs vs h1 in let m = some_base q xs vs o h in absurd (omega (arith, le, n, m))

-- WHAT LASTS LIES APART
pub apart_together : (program : Program) (first : ℕ) (sections : List Declarations) (t : Together program first sections) → LieApart program first sections t
apart_together program first sections t zero o1 q base base1 w w1 = absurd w
apart_together program first sections t (suc o) zero q base base1 w w1 = absurd w1
apart_together program first sections t (suc o) (suc o1) q base base1 w w1 =
    let bases = own_bases program first sections t in
    let x = has_object (slice_get (of_sections 1 sections) o) w in
    let x1 = has_object (slice_get (of_sections 1 sections) o1) w1 in
    let n = all_once (setting_together program first sections t 0) (pay_of sections) 0 1 sections program.sections (lie_together program first sections t) (has_all program first sections t 0) q in
    let once = one_at_most q (all_data program.sections) (λ i j d e at at1 is is1. t.well.data_apart i j q d e at at1 is is1) in
    ap suc (one_object q (of_sections 1 sections) bases o o1 (omega (arith, n, once)) (x.0, x.1, subst HasWords x.1 w, base) (x1.0, x1.1, subst HasWords x1.1 w1, base1))
  where
    has_object : (y : Option Lasting) → HasWords y → (x : Lasting) × (y ≡ Some x)
    has_object None h = absurd h
    has_object (Some x) h = (x, refl)
