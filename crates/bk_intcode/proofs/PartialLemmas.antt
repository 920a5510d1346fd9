-- Items of a segment that goes on, one item more, and the whole segment.
use Rattle.bk_intcode.proofs.Terms.{◌≡◌, ◌≢◌, ◌⊎◌, inl, inr, ℕ, zero, suc, ◌<◌, ◌++◌, ◌||◌, ◌&&◌, ◌==◌, nat_lt, Bool, true, false, IsTrue, if◌then◌else◌, List, [], ◌∷◌, Some, None, length, take, slice_get, arith, refl, sym, ◌∙◌, ap, subst, eq-eqb, length-append, list_all, cases_lt, take-append-le, take-append_seam, INTCODE_ITEMS, LabelNotSet, LabelSetTwice, TooLong, FrameGivenTwice, sets, item_sets, item_uses, operand_uses, IsSegment, IsItem, AreItems, operand_is_set, use_is_set, is_frame, gives_frame, Operand, Label, Item, Instruction, SetLabel, LabelWord, SetGlobal, Frame, End, all_set, label_not_set, label_set_twice, too_long, frame_given_twice, item_fault, IsPartial, ltb-true, eqb-true}

pub at_push : {X : Type 0} (xs : List X) (y : X) (k : ℕ) (x : X) → slice_get (xs ++ y ∷ []) k ≡ Some x → ((k < length xs) × (slice_get xs k ≡ Some x)) ⊎ ((k ≡ length xs) × (y ≡ x))
at_push [] y zero x is = inr (refl, cc)
at_push [] y (suc k) x is = absurd (let h : None ≡ Some x = is in cc)
at_push (z ∷ xs) y zero x is = inl (omega arith, is)
at_push (z ∷ xs) y (suc k) x is = elim (at_push xs y k x is) [ inl p ↦ inl (omega (arith, p.0), p.1) | inr p ↦ inr (ap suc p.0, p.1) ]

pub get_push : {X : Type 0} (xs : List X) (y : X) → slice_get (xs ++ y ∷ []) (length xs) ≡ Some y
get_push [] y = refl
get_push (z ∷ xs) y = get_push xs y

pub get_low : {X : Type 0} (xs : List X) (k : ℕ) (x : X) → slice_get xs k ≡ Some x → k < length xs
get_low [] k x is = absurd (let h : None ≡ Some x = is in cc)
get_low (z ∷ xs) zero x is = omega arith
get_low (z ∷ xs) (suc k) x is = omega (arith, get_low xs k x is)

none-append : {X : Type 0} (xs ys : List X) → slice_get (xs ++ ys) 0 ≡ None → (slice_get xs 0 ≡ None) × (slice_get ys 0 ≡ None)
none-append [] ys is = (refl, is)
none-append (x ∷ xs) ys is = absurd (let h : Some x ≡ None = is in cc)

-- an item without a fault behind others has none of the four
pub no_fault : (before : List Item) (item : Item) → item_fault before item ≡ None →
    (slice_get (label_not_set before item) 0 ≡ None) × (slice_get (label_set_twice before item) 0 ≡ None) × (slice_get (too_long before) 0 ≡ None) × (slice_get (frame_given_twice before item) 0 ≡ None)
no_fault before item is = grind (arith, none-append, too_long)

test-true : {X : Type 0} (b : Bool) (x : X) → slice_get (if b then [] else x ∷ []) 0 ≡ None → b ≡ true
test-true true x is = refl
test-true false x is = absurd (let h : Some x ≡ None = is in cc)

test-false : {X : Type 0} (b : Bool) (x : X) → slice_get (if b then x ∷ [] else []) 0 ≡ None → b ≡ false
test-false true x is = absurd (let h : Some x ≡ None = is in cc)
test-false false x is = refl

pub no_fault-few : (before : List Item) (item : Item) → item_fault before item ≡ None → length before < INTCODE_ITEMS
no_fault-few before item is = ltb-true (length before) INTCODE_ITEMS (test-true (nat_lt (length before) INTCODE_ITEMS) TooLong (no_fault before item is).2)

pub no_fault-label : (before : List Item) (label : ℕ) → item_fault before (SetLabel label) ≡ None → sets label before ≡ false
no_fault-label before label is = test-false (sets label before) LabelSetTwice (no_fault before (SetLabel label) is).1

pub no_fault-end : (before : List Item) → item_fault before End ≡ None → all_set before ≡ true
no_fault-end before is = test-true (all_set before) LabelNotSet (no_fault before End is).0

pub no_fault-frame : (before : List Item) (n : ℕ) → item_fault before (Frame n) ≡ None → gives_frame before ≡ false
no_fault-frame before n is = test-false (gives_frame before) FrameGivenTwice (no_fault before (Frame n) is).3

pub AreItems-push : (items : List Item) (item : Item) → AreItems items → IsItem item → AreItems (items ++ item ∷ [])
AreItems-push items item are fits = λ k i is. elim (at_push items item k i is) [ inl p ↦ are k i p.1 | inr p ↦ subst IsItem p.1 fits ]

pub IsPartial-push : (items : List Item) (item : Item) → IsPartial items → IsItem item → item_fault items item ≡ None → item ≢ End → IsPartial (items ++ item ∷ [])
IsPartial-push items item begun fits faultless other = record {
  in_range = AreItems-push items item begun.in_range fits;
  faultless = λ k i is. elim (at_push items item k i is) [
    | inl p ↦ ap (λ (b : List Item). item_fault b i) (take-append-le k items (item ∷ []) (omega (arith, p.0))) ∙ begun.faultless k i p.1
    | inr p ↦ ap (λ n. item_fault (take n (items ++ item ∷ [])) i) p.0 ∙ ap (λ (b : List Item). item_fault b i) (take-append_seam items (item ∷ [])) ∙ ap (item_fault items) (sym p.1) ∙ faultless
  ];
  no_end = λ k is. elim (at_push items item k End is) [ inl p ↦ begun.no_end k p.1 | inr p ↦ other p.1 ];
}

or_true : (a : Bool) → (a || true) ≡ true
or_true true = refl
or_true false = refl

and-left : (a b : Bool) → (a && b) ≡ true → a ≡ true
and-left true b is = refl
and-left false b is = is

and-right : (a b : Bool) → (a && b) ≡ true → b ≡ true
and-right true b is = is
and-right false b is = absurd (let h : false ≡ true = is in cc)

more_or : (a b c : Bool) → (IsTrue b → IsTrue c) → IsTrue (a || b) → IsTrue (a || c)
more_or true b c f is = refl
more_or false b c f is = f is

take-nil : {X : Type 0} (n : ℕ) → take {A = X} n [] ≡ []
take-nil zero = refl
take-nil (suc n) = refl

-- a label that stands at a place is set
pub sets-at : (label : ℕ) (items : List Item) (k : ℕ) → slice_get items k ≡ Some (SetLabel label) → sets label items ≡ true
sets-at label [] k is = absurd (let h : None ≡ Some (SetLabel label) = is in cc)
sets-at label (i ∷ items) zero is =
    let same : i ≡ SetLabel label = cc in
    ap (λ j. item_sets label j || sets label items) same ∙ ap (λ b. b || sets label items) (eq-eqb label label refl)
sets-at label (i ∷ items) (suc k) is = ap (λ b. item_sets label i || b) (sets-at label items k is) ∙ or_true (item_sets label i)

pub gives_frame-at : (n : ℕ) (items : List Item) (k : ℕ) → slice_get items k ≡ Some (Frame n) → gives_frame items ≡ true
gives_frame-at n [] k is = absurd (let h : None ≡ Some (Frame n) = is in cc)
gives_frame-at n (i ∷ items) zero is =
    let same : i ≡ Frame n = cc in
    ap (λ j. is_frame j || gives_frame items) same
gives_frame-at n (i ∷ items) (suc k) is = ap (λ b. is_frame i || b) (gives_frame-at n items k is) ∙ or_true (is_frame i)

pub get-take : {X : Type 0} (xs : List X) (n k : ℕ) → k < n → slice_get (take n xs) k ≡ slice_get xs k
get-take [] n k low = ap (λ l. slice_get l k) (take-nil n)
get-take (x ∷ xs) zero k low = absurd (omega arith)
get-take (x ∷ xs) (suc n) zero low = refl
get-take (x ∷ xs) (suc n) (suc k) low = get-take xs n k (omega arith)

-- no label is set before itself
label-before : (items : List Item) → IsPartial items → (j k label : ℕ) → slice_get items j ≡ Some (SetLabel label) → slice_get items k ≡ Some (SetLabel label) → j < k → ⊥
label-before items begun j k label at_j at_k low =
    let set : sets label (take k items) ≡ true = sets-at label (take k items) j (get-take items k j low ∙ at_j) in
    let unset : sets label (take k items) ≡ false = no_fault-label (take k items) label (begun.faultless k (SetLabel label) at_k) in
    cc

frame-before : (items : List Item) → IsPartial items → (j k m n : ℕ) → slice_get items j ≡ Some (Frame m) → slice_get items k ≡ Some (Frame n) → j < k → ⊥
frame-before items begun j k m n at_j at_k low =
    let given : gives_frame (take k items) ≡ true = gives_frame-at m (take k items) j (get-take items k j low ∙ at_j) in
    let not_given : gives_frame (take k items) ≡ false = no_fault-frame (take k items) n (begun.faultless k (Frame n) at_k) in
    cc

same_place : (j k : ℕ) → (j < k → ⊥) → (k < j → ⊥) → j ≡ k
same_place j k p q = elim (cases_lt j k) [ inl h ↦ absurd (p h) | inr h ↦ elim (cases_lt k j) [ inl i ↦ absurd (q i) | inr i ↦ omega arith ] ]

-- the end is no other item
before_end : (items : List Item) (k : ℕ) (item : Item) → slice_get (items ++ End ∷ []) k ≡ Some item → item ≢ End → slice_get items k ≡ Some item
before_end items k item is other = elim (at_push items End k item is) [ inl p ↦ p.1 | inr p ↦ absurd (other (sym p.1)) ]

list_all-get : {X : Type 0} (p : X → Bool) (xs : List X) (k : ℕ) (x : X) → list_all p xs ≡ true → slice_get xs k ≡ Some x → p x ≡ true
list_all-get p [] k x all is = absurd (let h : None ≡ Some x = is in cc)
list_all-get p (y ∷ xs) zero x all is = let same : y ≡ x = cc in ap p (sym same) ∙ and-left (p y) (list_all p xs) all
list_all-get p (y ∷ xs) (suc k) x all is = list_all-get p xs k x (and-right (p y) (list_all p xs) all) is

sets-of : (label l : ℕ) (items : List Item) → IsTrue (l == label) → sets l items ≡ true → IsTrue (sets label items)
sets-of label l items same set = let is : l ≡ label = eqb-true l label same in subst (λ n. IsTrue (sets n items)) is set

operand-set : (items : List Item) (label : ℕ) (o : Operand) → operand_is_set items o ≡ true → IsTrue (operand_uses label o) → IsTrue (sets label items)
operand-set items label (Label l) set uses = sets-of label l items uses set
operand-set items x y set uses = absurd (let h : false ≡ true = uses in cc)

use-set : (items : List Item) (label : ℕ) (item : Item) → use_is_set items item ≡ true → IsTrue (item_uses label item) → IsTrue (sets label items)
use-set items label (Instruction f i o) set uses = operand-set items label o set uses
use-set items label (LabelWord l) set uses = sets-of label l items uses set
use-set items label (SetGlobal n l) set uses = sets-of label l items uses set
use-set items x y set uses = absurd (let h : false ≡ true = uses in cc)

sets-more : (label : ℕ) (items more : List Item) → IsTrue (sets label items) → IsTrue (sets label (items ++ more))
sets-more label [] more set = absurd (let h : false ≡ true = set in cc)
sets-more label (i ∷ items) more set = more_or (item_sets label i) (sets label items) (sets label (items ++ more)) (sets-more label items more) set

-- With the end behind them, without a fault, they are a segment.
pub IsSegment-of : (items all : List Item) → all ≡ items ++ End ∷ [] → IsPartial items → item_fault items End ≡ None → IsSegment all
IsSegment-of items all is begun faultless = subst IsSegment (sym is) (record {
  ends = λ k at. elim (at_push items End k End at) [ inl p ↦ absurd (begun.no_end k p.1) | inr p ↦ omega (arith, p.0, length-append items (End ∷ [])) ];
  ended = ap (λ n. slice_get (items ++ End ∷ []) n) (omega (arith, length-append items (End ∷ []))) ∙ get_push items End;
  set_once = λ j k label at_j at_k.
      let a = before_end items j (SetLabel label) at_j (λ e. cc) in
      let b = before_end items k (SetLabel label) at_k (λ e. cc) in
      same_place j k (label-before items begun j k label a b) (label-before items begun k j label b a);
  used_set = λ k label item at uses. elim (at_push items End k item at) [
    | inl p ↦ sets-more label items (End ∷ []) (use-set items label item (list_all-get (use_is_set items) items k item (no_fault-end items faultless) p.1) uses)
    | inr p ↦ absurd (let h : IsTrue (item_uses label End) = subst (λ i. IsTrue (item_uses label i)) (sym p.1) uses in let g : false ≡ true = h in cc)
  ];
  one_frame = λ j k m n at_j at_k.
      let a = before_end items j (Frame m) at_j (λ e. cc) in
      let b = before_end items k (Frame n) at_k (λ e. cc) in
      same_place j k (frame-before items begun j k m n a b) (frame-before items begun k j n m b a);
  in_range = λ k item at. elim (at_push items End k item at) [ inl p ↦ begun.in_range k item p.1 | inr p ↦ subst IsItem p.1 tt ];
  counted = omega (arith, length-append items (End ∷ []), no_fault-few items End faultless);
})
