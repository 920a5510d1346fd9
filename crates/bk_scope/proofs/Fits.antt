-- What names in scope mean where nothing is wrong: constants have words, globals numbers, and the variables of a procedure
-- words of its frame from 2 on, below the depth.
use Rattle.bk_scope.proofs.Terms.{◌≡◌, ℕ, ◌+◌, ◌≤◌, ◌<◌, Bool, true, false, cond, Option, Some, List, [], ◌∷◌, ◌++◌, length, subst, arith, bytes_eq, none-some, GLOBAL_NUMBER, FRAME_WORDS, Mention, Definitions, routine, function, variables, no_definitions, define, Bound, Constant, Global, Static, Variable, Label, Binding, bound_in, bind, bind_all, is_global, kept, with_formals, labels_in_scope, procedure_in_scope, procedures_in_scope}

-- in procedure k, at depth d, where the procedures so far have numbers below n
abbrev pub FitsBound : ℕ → ℕ → ℕ → Bound → Type 0
FitsBound k d n (Constant v) = (w : ℕ) × (v ≡ Some w)
FitsBound k d n (Global g) = (m : ℕ) × (g ≡ Some m) × (m ≤ GLOBAL_NUMBER)
FitsBound k d n (Variable j i) = (j < n) × (j ≡ k → 1 ≤ k → (2 ≤ i) × (i < d))
FitsBound k d n _ = Unit {0}

abbrev pub Fits : ℕ → ℕ → ℕ → List Binding → Type 0
Fits k d n [] = Unit {0}
Fits k d n (b ∷ bs) = FitsBound k d n b.bound × Fits k d n bs

bound_more : (k d e n m : ℕ) (b : Bound) → d ≤ e → n ≤ m → FitsBound k d n b → FitsBound k e m b
bound_more k d e n m (Constant v) a b h = h
bound_more k d e n m (Global g) a b h = h
bound_more k d e n m (Variable j i) a b h = (omega (arith, h.0, b), λ s t. ((h.1 s t).0, omega (arith, a, (h.1 s t).1)))
bound_more k d e n m _ a b h = tt

pub fits_more : (k d e n m : ℕ) (bs : List Binding) → d ≤ e → n ≤ m → Fits k d n bs → Fits k e m bs
fits_more k d e n m [] a b h = tt
fits_more k d e n m (x ∷ bs) a b h = (bound_more k d e n m x.bound a b h.0, fits_more k d e n m bs a b h.1)

-- a procedure inside has a number of its own, and no variables yet
bound_inner : (k d n e m : ℕ) (b : Bound) → n < m → FitsBound k d n b → FitsBound n e m b
bound_inner k d n e m (Constant v) a h = h
bound_inner k d n e m (Global g) a h = h
bound_inner k d n e m (Variable j i) a h = (omega (arith, h.0, a), λ s t. absurd (omega (arith, s, h.0)))
bound_inner k d n e m _ a h = tt

pub fits_inner : (k d n e m : ℕ) (bs : List Binding) → n < m → Fits k d n bs → Fits n e m bs
fits_inner k d n e m [] a h = tt
fits_inner k d n e m (x ∷ bs) a h = (bound_inner k d n e m x.bound a h.0, fits_inner k d n e m bs a h.1)

some_same : (y z : Bound) → Some y ≡ Some z → y ≡ z
some_same y z e = cc

found_in_list : (q : Bool) (x : Option Bound) (y z : Bound) (k d n : ℕ) → FitsBound k d n y → (x ≡ Some z → FitsBound k d n z) → cond q (Some y) x ≡ Some z → FitsBound k d n z
found_in_list true x y z k d n h g e = subst (FitsBound k d n) (some_same y z e) h
found_in_list false x y z k d n h g e = g e

-- WHAT A NAME MEANS
pub bound_fits : (k d n : ℕ) (bs : List Binding) (x : List ℕ) (z : Bound) → Fits k d n bs → bound_in bs x ≡ Some z → FitsBound k d n z
bound_fits k d n [] x z h e = absurd (none-some _ e)
bound_fits k d n (b ∷ bs) x z h e = found_in_list (bytes_eq b.name x) (bound_in bs x) b.bound z k d n h.0 (bound_fits k d n bs x z h.1) e

pub labels_fit : (k d n j m : ℕ) (xs : List (List ℕ)) (bs : List Binding) → Fits k d n bs → Fits k d n (labels_in_scope j m xs bs)
labels_fit k d n j m [] bs h = h
labels_fit k d n j m (x ∷ xs) bs h = labels_fit k d n j (m + 1) xs (bind x (Label j m) bs) (tt, h)

procedure_fits : (q : Bool) (k d n m : ℕ) (x : List ℕ) (bs : List Binding) → Fits k d n bs → Fits k d n (cond q bs (bind x (Static m) bs))
procedure_fits true k d n m x bs h = h
procedure_fits false k d n m x bs h = (tt, h)

pub procedures_fit : (k d n m : ℕ) (ds : Definitions) (bs : List Binding) → Fits k d n bs → Fits k d n (procedures_in_scope m ds bs)
procedures_fit k d n m no_definitions bs h = h
procedures_fit k d n m (define (routine l x fs c) ds) bs h = procedures_fit k d n (m + 1) ds (procedure_in_scope m x bs) (procedure_fits (is_global (bound_in bs x)) k d n m x bs h)
procedures_fit k d n m (define (function l x fs c) ds) bs h = procedures_fit k d n (m + 1) ds (procedure_in_scope m x bs) (procedure_fits (is_global (bound_in bs x)) k d n m x bs h)
procedures_fit k d n m (define (variables l xs is) ds) bs h = procedures_fit k d n m ds bs h

pub append_fits : (k d n : ℕ) (zs bs : List Binding) → Fits k d n zs → Fits k d n bs → Fits k d n (zs ++ bs)
append_fits k d n [] bs a b = b
append_fits k d n (x ∷ zs) bs a b = (a.0, append_fits k d n zs bs a.1 b)

pub all_fit : (k d n : ℕ) (xs bs : List Binding) → Fits k d n xs → Fits k d n bs → Fits k d n (bind_all xs bs)
all_fit k d n [] bs a b = b
all_fit k d n (x ∷ xs) bs a b = all_fit k d n xs (x ∷ bs) a.1 (a.0, b)

-- the formals of procedure k
pub formals_fit : (k d n : ℕ) (xs : List Mention) (bs : List Binding) → 2 ≤ d → d + length xs ≤ FRAME_WORDS → k < n → Fits k d n bs → Fits k (d + length xs) n (with_formals k d xs bs)
formals_fit k d n [] bs two h c a = fits_more k d (d + 0) n n bs (omega arith) (omega arith) a
formals_fit k d n (x ∷ xs) bs two h c a =
    let e : kept (d + 1) ≡ d + 1 = omega (arith, h) in
    fits_more k (kept (d + 1) + length xs) (d + length (x ∷ xs)) n n _ (omega (arith, e)) (omega arith)
    (formals_fit k (kept (d + 1)) n xs (bind x.letters (Variable k d) bs) (omega (arith, two, e)) (omega (arith, e, h)) c ((c, λ s t. (two, omega (arith, e))), fits_more k d (kept (d + 1)) n n bs (omega (arith, e)) (omega arith) a))
