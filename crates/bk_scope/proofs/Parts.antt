-- Where a whole has no fault, each part has none.
use Rattle.bk_scope.proofs.Terms.{◌≡◌, Bool, true, false, cond, List, [], ◌∷◌, ◌++◌, refl, sym, ◌∙◌, Declarations, Claim, is_claimed, Fault, Point, meaning, word, depth, wrong, claim, claimed, claims_after, comes_before, put, in_order, judged, reported_of, faults, Clean, NoWrong}
use Rattle.bk_scope.proofs.Lists.{judged_append}

cons_nil : (f : Fault) (fs : List Fault) → (f ∷ fs) ≡ [] → ⊥
cons_nil f fs e = cc

left_none : (fs gs : List Fault) → fs ++ gs ≡ [] → fs ≡ []
left_none [] gs e = refl
left_none (f ∷ fs) gs e = absurd (cons_nil f (fs ++ gs) e)

right_none : (fs gs : List Fault) → fs ++ gs ≡ [] → gs ≡ []
right_none [] gs e = e
right_none (f ∷ fs) gs e = absurd (cons_nil f (fs ++ gs) e)

put_some : (b : Bool) (f g : Fault) (gs hs : List Fault) → cond b (g ∷ hs) (f ∷ (g ∷ gs)) ≡ [] → ⊥
put_some true f g gs hs e = cons_nil g hs e
put_some false f g gs hs e = cons_nil f (g ∷ gs) e

never_none : (f : Fault) (fs : List Fault) → put f fs ≡ [] → ⊥
never_none f [] e = cons_nil f [] e
never_none f (g ∷ gs) e = put_some (comes_before g f) f g gs (put f gs) e

order_none : (fs : List Fault) → in_order fs ≡ [] → fs ≡ []
order_none [] e = refl
order_none (f ∷ fs) e = absurd (never_none f (in_order fs) e)

-- A SECTION WITHOUT FAULTS is clean; of two parts each is
pub section_clean : (ds : Declarations) → faults ds ≡ [] → Clean [] (reported_of ds)
section_clean ds e = order_none (judged [] (reported_of ds)) e

pub first_clean : (cs : List Claim) (xs ys : List Point) → Clean cs (xs ++ ys) → Clean cs xs
first_clean cs xs ys e = left_none (judged cs xs) (judged (claims_after cs xs) ys) (sym (judged_append xs ys cs) ∙ e)

pub second_clean : (cs : List Claim) (xs ys : List Point) → Clean cs (xs ++ ys) → Clean (claims_after cs xs) ys
second_clean cs xs ys e = right_none (judged cs xs) (judged (claims_after cs xs) ys) (sym (judged_append xs ys cs) ∙ e)

-- whatever was claimed before, nothing is wrong by itself
pub no_wrong : (xs : List Point) (cs : List Claim) → Clean cs xs → NoWrong xs
no_wrong [] cs e = tt
no_wrong (wrong f ∷ xs) cs e = cons_nil f (judged cs xs) e
no_wrong (claim c f ∷ xs) cs e = no_wrong xs (claimed c cs) (right_none (cond (is_claimed c cs) (f ∷ []) []) (judged (claimed c cs) xs) e)
no_wrong (_ ∷ xs) cs e = no_wrong xs cs e
