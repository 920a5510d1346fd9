-- Lists of points, one behind another.
use Rattle.bk_scope.proofs.Terms.{◌≡◌, ℕ, ◌+◌, ◌*◌, ◌<◌, ◌≤◌, ◌==◌, Bool, true, false, cond, List, [], ◌∷◌, ◌++◌, refl, sym, ap, ◌∙◌, append_assoc, arith, nat_lt, le-ltb, eqb-true, Wrong, not_declared, declared_twice, dynamic_name, not_constant, divided_by_zero, case_repeated, default_repeated, no_loop, no_switchon, no_result_or_return, label_not_here, global_out_of_range, vec_out_of_range, frame_too_large, not_assignable, two_procedures, elsewhere, Claim, is_claimed, else_first, Fault, Point, meaning, word, depth, wrong, claim, number_of, claimed, claims_after, judged, comes_before, put, in_order, first_reported, meanings_of, words_of, deepest}

-- each part of what is told
pub claims_append : (xs ys : List Point) (cs : List Claim) → claims_after cs (xs ++ ys) ≡ claims_after (claims_after cs xs) ys
claims_append [] ys cs = refl
claims_append (claim c f ∷ xs) ys cs = claims_append xs ys (claimed c cs)
claims_append (_ ∷ xs) ys cs = claims_append xs ys cs

pub judged_append : (xs ys : List Point) (cs : List Claim) → judged cs (xs ++ ys) ≡ judged cs xs ++ judged (claims_after cs xs) ys
judged_append [] ys cs = refl
judged_append (wrong f ∷ xs) ys cs = ap (λ l. f ∷ l) (judged_append xs ys cs)
judged_append (claim c f ∷ xs) ys cs = grind (arith, (judged_append xs ys (claimed c cs)))
judged_append (_ ∷ xs) ys cs = judged_append xs ys cs

pub meanings_append : (xs ys : List Point) → meanings_of (xs ++ ys) ≡ meanings_of xs ++ meanings_of ys
meanings_append [] ys = refl
meanings_append (meaning b ∷ xs) ys = ap (λ l. b ∷ l) (meanings_append xs ys)
meanings_append (_ ∷ xs) ys = meanings_append xs ys

pub words_append : (xs ys : List Point) → words_of (xs ++ ys) ≡ words_of xs ++ words_of ys
words_append [] ys = refl
words_append (word v ∷ xs) ys = ap (λ l. v ∷ l) (words_append xs ys)
words_append (_ ∷ xs) ys = words_append xs ys

pub deepest_append : (xs ys : List Point) (d : ℕ) → deepest d (xs ++ ys) ≡ deepest (deepest d xs) ys
deepest_append [] ys d = refl
deepest_append (depth m ∷ xs) ys d = deepest_append xs ys _
deepest_append (_ ∷ xs) ys d = deepest_append xs ys d

-- faults by place and then by number, as one number
abbrev pub key : Fault → ℕ
key f = 32 * f.place + number_of f.wrong

pub below_32 : (w : Wrong) → number_of w < 32
below_32 (not_declared x) = omega arith
below_32 _ = omega arith

-- where the points stand that may be faults: from n on, below m
abbrev pub Inside : ℕ → ℕ → List Point → Type 0
Inside n m [] = Unit {0}
Inside n m (wrong f ∷ xs) = (n ≤ key f) × (key f < m) × Inside n m xs
Inside n m (claim c f ∷ xs) = (n ≤ key f) × (key f < m) × Inside n m xs
Inside n m (_ ∷ xs) = Inside n m xs

abbrev pub AllInside : ℕ → ℕ → List Fault → Type 0
AllInside n m [] = Unit {0}
AllInside n m (f ∷ fs) = (n ≤ key f) × (key f < m) × AllInside n m fs

pub inside_append : (n m : ℕ) (xs ys : List Point) → Inside n m xs → Inside n m ys → Inside n m (xs ++ ys)
inside_append n m [] ys h g = g
inside_append n m (meaning b ∷ xs) ys h g = inside_append n m xs ys h g
inside_append n m (word v ∷ xs) ys h g = inside_append n m xs ys h g
inside_append n m (depth d ∷ xs) ys h g = inside_append n m xs ys h g
inside_append n m (_ ∷ xs) ys h g = (h.0, h.1, inside_append n m xs ys h.2 g)

pub inside_wider : (n m i j : ℕ) (xs : List Point) → i ≤ n → m ≤ j → Inside n m xs → Inside i j xs
inside_wider n m i j [] a b h = tt
inside_wider n m i j (meaning c ∷ xs) a b h = inside_wider n m i j xs a b h
inside_wider n m i j (word v ∷ xs) a b h = inside_wider n m i j xs a b h
inside_wider n m i j (depth d ∷ xs) a b h = inside_wider n m i j xs a b h
inside_wider n m i j (_ ∷ xs) a b h = (omega (arith, a, h.0), omega (arith, b, h.1), inside_wider n m i j xs a b h.2)

if_claimed : (b : Bool) (n m : ℕ) (f : Fault) (fs : List Fault) → n ≤ key f → key f < m → AllInside n m fs → AllInside n m (cond b (f ∷ []) [] ++ fs)
if_claimed true n m f fs a b h = (a, b, h)
if_claimed false n m f fs a b h = h

pub judged_inside : (n m : ℕ) (xs : List Point) (cs : List Claim) → Inside n m xs → AllInside n m (judged cs xs)
judged_inside n m [] cs h = tt
judged_inside n m (wrong f ∷ xs) cs h = (h.0, h.1, judged_inside n m xs cs h.2)
judged_inside n m (claim c f ∷ xs) cs h = if_claimed (is_claimed c cs) n m f _ h.0 h.1 (judged_inside n m xs (claimed c cs) h.2)
judged_inside n m (_ ∷ xs) cs h = judged_inside n m xs cs h

-- put in order
put_which : (q : Bool) (n m : ℕ) (f g : Fault) (gs hs : List Fault) → n ≤ key f → key f < m → AllInside n m (g ∷ gs) → AllInside n m hs → AllInside n m (cond q (g ∷ hs) (f ∷ (g ∷ gs)))
put_which true n m f g gs hs a b h k = (h.0, h.1, k)
put_which false n m f g gs hs a b h k = (a, b, h)

put_inside : (n m : ℕ) (f : Fault) (fs : List Fault) → n ≤ key f → key f < m → AllInside n m fs → AllInside n m (put f fs)
put_inside n m f [] a b h = (a, b, tt)
put_inside n m f (g ∷ gs) a b h = put_which (comes_before g f) n m f g gs (put f gs) a b h (put_inside n m f gs a b h.2)

pub order_inside : (n m : ℕ) (fs : List Fault) → AllInside n m fs → AllInside n m (in_order fs)
order_inside n m [] h = tt
order_inside n m (f ∷ fs) h = put_inside n m f (in_order fs) h.0 h.1 (order_inside n m fs h.2)

later_by : (q : Bool) (f g : Fault) → (g.place == f.place) ≡ q → key f < key g → cond q (nat_lt (number_of g.wrong) (number_of f.wrong)) (nat_lt g.place f.place) ≡ false
later_by true f g e h = le-ltb (number_of g.wrong) (number_of f.wrong) (omega (arith, eqb-true g.place f.place e, h))
later_by false f g e h = le-ltb g.place f.place (omega (arith, h, below_32 f.wrong, below_32 g.wrong))

later : (f g : Fault) → key f < key g → comes_before g f ≡ false
later f g h = later_by (g.place == f.place) f g refl h

kept_apart : (q : Bool) (f g : Fault) (gs hs us vs : List Fault) → hs ≡ us ++ vs → cond q (g ∷ hs) (f ∷ (g ∷ (gs ++ vs))) ≡ cond q (g ∷ us) (f ∷ (g ∷ gs)) ++ vs
kept_apart true f g gs hs us vs e = ap (λ l. g ∷ l) e
kept_apart false f g gs hs us vs e = refl

-- a fault that stands before all of the second part is put into the first
put_apart : (m l : ℕ) (f : Fault) (fs gs : List Fault) → key f < m → AllInside m l gs → put f (fs ++ gs) ≡ put f fs ++ gs
put_apart m l f [] [] a h = refl
put_apart m l f [] (g ∷ gs) a h = rw (later f g (omega (arith, a, h.0))) refl
put_apart m l f (g ∷ fs) gs a h = kept_apart (comes_before g f) f g fs (put f (fs ++ gs)) (put f fs) gs (put_apart m l f fs gs a h)

pub order_apart : (n m l : ℕ) (fs gs : List Fault) → AllInside n m fs → AllInside m l gs → in_order (fs ++ gs) ≡ in_order fs ++ in_order gs
order_apart n m l [] gs a b = refl
order_apart n m l (f ∷ fs) gs a b = ap (put f) (order_apart n m l fs gs a.2 b) ∙ put_apart m l f (in_order fs) (in_order gs) a.1 (order_inside m l gs b)

pub first_append : (fs gs : List Fault) → first_reported (fs ++ gs) ≡ else_first (first_reported fs) (first_reported gs)
first_append [] gs = refl
first_append (f ∷ fs) gs = refl

-- THE FIRST OF TWO PARTS, one behind the other
pub first_of_both : (n m l : ℕ) (xs ys : List Point) (cs : List Claim) → Inside n m xs → Inside m l ys
    → first_reported (in_order (judged cs (xs ++ ys))) ≡ else_first (first_reported (in_order (judged cs xs))) (first_reported (in_order (judged (claims_after cs xs) ys)))
first_of_both n m l xs ys cs a b = grind (arith, in_order, judged_append, order_apart, judged_inside, first_append)
