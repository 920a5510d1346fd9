-- The words of a text say one thing.
use Rattle.bk_intcode.proofs.WordLemmas.{each_digit, other_class, nothing-empty, ◌≡◌, ◌≢◌, inl, inr, ℕ, zero, suc, ◌+◌, ◌-◌, ◌<◌, ◌≤◌, ◌^◌, ◌++◌, ◌&&◌, ◌==◌, nat_lt, Bool, true, false, IsTrue, if◌then◌else◌, pos, List, [], ◌∷◌, Some, None, length, take, get_or, map, slice_get, arith, refl, sym, ap, ◌∙◌, subst, append_assoc, append-nil, length-append, length-take, eq-eqb, lt-ltb, list_all, cases_lt, length-map, decimal_injective, spelling, INTCODE_ITEMS, IntcodeKind, BadLetter, BadNumber, ByteOver255, LabelNotSet, LabelSetTwice, Truncated, TooLong, FrameGivenTwice, sets, item_uses, operand_uses, IsSegment, IsItem, AreItems, operand_is_set, use_is_set, gives_frame, Function, Load, Operand, Label, Item, Instruction, SetLabel, Byte, LabelWord, SetGlobal, Frame, End, letter, item_text, all_set, item_fault, Means, WordFault, begins_item, IsByteOver255, IsPartial, FaultAfter, FaultAt, CutAt, segment, nothing, fault, Says, SayOneThing, rest_same, first-numeral, or_cases, eqb-true}
use Rattle.bk_intcode.proofs.PartialLemmas.{get_low, get-take, sets-at}
use Rattle.bk_intcode.proofs.ItemSame.{item_same}

-- items whose words begin the words of others begin those
same_front : (a b : List Item) (x y : List (List ℕ)) → AreItems a → AreItems b → map item_text a ++ x ≡ map item_text b ++ y → length a ≤ length b → (c : List Item) × (b ≡ a ++ c) × (x ≡ map item_text c ++ y)
same_front [] b x y p q is short = (b, refl, is)
same_front (i ∷ a) [] x y p q is short = absurd (omega arith)
same_front (i ∷ a) (j ∷ b) x y p q is short =
    let first : item_text i ≡ item_text j = firsts (item_text i) (item_text j) (map item_text a ++ x) (map item_text b ++ y) is in
    let same : i ≡ j = item_same i j (p 0 i refl) (q 0 j refl) first in
    let r = same_front a b x y (λ k item at. p (suc k) item at) (λ k item at. q (suc k) item at) (rests (item_text i) (item_text j) (map item_text a ++ x) (map item_text b ++ y) is) (omega arith) in
    (r.0, ap (λ k. k ∷ b) (sym same) ∙ ap (λ (l : List Item). i ∷ l) r.1, r.2)
  where
    firsts : (v w : List ℕ) (s t : List (List ℕ)) → v ∷ s ≡ w ∷ t → v ≡ w
    firsts v w s t e = cc

    rests : (v w : List ℕ) (s t : List (List ℕ)) → v ∷ s ≡ w ∷ t → s ≡ t
    rests v w s t e = cc

get-append : {X : Type 0} (a c : List X) (k : ℕ) (x : X) → slice_get a k ≡ Some x → slice_get (a ++ c) k ≡ Some x
get-append [] c k x at = absurd (let h : None ≡ Some x = at in cc)
get-append (y ∷ a) c zero x at = at
get-append (y ∷ a) c (suc k) x at = get-append a c k x at

get-seam : {X : Type 0} (a : List X) (x : X) (c : List X) → slice_get (a ++ x ∷ c) (length a) ≡ Some x
get-seam [] x c = refl
get-seam (y ∷ a) x c = get-seam a x c

take-seam : {X : Type 0} (a c : List X) → take (length a) (a ++ c) ≡ a
take-seam [] c = take-none c
  where
    take-none : {X : Type 0} (l : List X) → take 0 l ≡ []
    take-none [] = refl
    take-none (x ∷ l) = refl
take-seam (y ∷ a) c = ap (λ l. y ∷ l) (take-seam a c)

-- what the word of an item begins with begins an item
digit-begins : (b : ℕ) → 48 ≤ b → b ≤ 57 → begins_item b ≡ true
digit-begins b low high = each_digit (λ n. begins_item n ≡ true) refl refl refl refl refl refl refl refl refl refl b low high

letter-begins : (f : Function) → begins_item (letter f) ≡ true
letter-begins Load = refl
letter-begins _ = refl

numeral-begins : (l : ℕ) → l < 2 ^ 64 → (w : List ℕ) → spelling (pos l) ≡ w → w ≢ [] → begins_item (get_or w 0 0) ≡ true
numeral-begins l small [] is some = absurd (some refl)
numeral-begins l small (b ∷ w) is some = let first = first-numeral l small b w is in digit-begins b first.0 first.1

item-begins : (item : Item) → IsItem item → begins_item (get_or (item_text item) 0 0) ≡ true
item-begins (Instruction f i o) fits = letter-begins f
item-begins (SetLabel l) fits = numeral-begins l (omega (arith, fits.0, fits.1)) (spelling (pos l)) refl (nothing-empty (SetLabel l) fits)
item-begins (Byte b) fits = refl
item-begins _ fits = refl

-- a byte over 255 is no item
large_no_item : (n : ℕ) → 255 < n → n < 2 ^ 31 → (item : Item) → IsItem item → item_text item ≢ 67 ∷ spelling (pos n)
large_no_item n large small (Byte b) fits = λ is.
    let same : b ≡ n = decimal_injective b n (omega arith) (omega arith) (rest_same 67 (spelling (pos b)) (spelling (pos n)) is) in absurd (omega arith)
large_no_item n large small (Instruction f i o) fits = other_class (Instruction f i o) fits 67 (spelling (pos n)) 67 refl refl
large_no_item n large small x fits = other_class x fits 67 (spelling (pos n)) 67 refl refl

-- a word that has a fault by itself stands for no item
fault_no_item : (word : List ℕ) (kind : IntcodeKind) (item : Item) → WordFault word kind → Means word item → ⊥
fault_no_item word BadLetter item bad m =
    let begins : begins_item (get_or word 0 0) ≡ true = subst (λ (w : List ℕ). begins_item (get_or w 0 0) ≡ true) m.text (item-begins item m.in_range) in
    let other : begins_item (get_or word 0 0) ≡ false = bad in cc
fault_no_item word BadNumber item bad m = bad.1 item m.in_range m.text
fault_no_item word ByteOver255 item bad m = large_no_item bad.0 bad.1 bad.2 item m.in_range (m.text ∙ bad.3)
fault_no_item word x item bad m = absurd bad

-- an item without a fault behind others has none
no_fault_behind : (before : List Item) (item : Item) (kind : IntcodeKind) → IsItem item → item_fault before item ≡ None → FaultAfter before (item_text item) kind → ⊥
no_fault_behind before item kind fits none (inl bad) = fault_no_item (item_text item) kind item bad (record { text = refl; in_range = fits })
no_fault_behind before item kind fits none (inr p) =
    let same : p.0 ≡ item = item_same p.0 item p.1.in_range fits p.1.text in
    let some : item_fault before item ≡ Some kind = ap (λ i. item_fault before i) (sym same) ∙ p.2 in
    let h : None ≡ Some kind = sym none ∙ some in cc

letter_or_large : (word : List ℕ) → begins_item (get_or word 0 0) ≡ false → IsByteOver255 word → ⊥
letter_or_large word other over =
    let begins : begins_item (get_or word 0 0) ≡ true = ap (λ (w : List ℕ). begins_item (get_or w 0 0)) over.3 in cc

number_or_letter : (word : List ℕ) → begins_item (get_or word 0 0) ≡ false → begins_item (get_or word 0 0) ≡ true → ⊥
number_or_letter word other begins = cc

word_kind_same : (word : List ℕ) (j k : IntcodeKind) → WordFault word j → WordFault word k → j ≡ k
word_kind_same word BadLetter BadLetter x y = refl
word_kind_same word BadLetter BadNumber x y = absurd (number_or_letter word x y.0)
word_kind_same word BadLetter ByteOver255 x y = absurd (letter_or_large word x y)
word_kind_same word BadLetter LabelNotSet x y = absurd y
word_kind_same word BadLetter LabelSetTwice x y = absurd y
word_kind_same word BadLetter Truncated x y = absurd y
word_kind_same word BadLetter TooLong x y = absurd y
word_kind_same word BadLetter FrameGivenTwice x y = absurd y
word_kind_same word BadNumber BadLetter x y = absurd (number_or_letter word y x.0)
word_kind_same word BadNumber BadNumber x y = refl
word_kind_same word BadNumber ByteOver255 x y = absurd (x.2 y)
word_kind_same word BadNumber LabelNotSet x y = absurd y
word_kind_same word BadNumber LabelSetTwice x y = absurd y
word_kind_same word BadNumber Truncated x y = absurd y
word_kind_same word BadNumber TooLong x y = absurd y
word_kind_same word BadNumber FrameGivenTwice x y = absurd y
word_kind_same word ByteOver255 BadLetter x y = absurd (letter_or_large word y x)
word_kind_same word ByteOver255 BadNumber x y = absurd (y.2 x)
word_kind_same word ByteOver255 ByteOver255 x y = refl
word_kind_same word ByteOver255 LabelNotSet x y = absurd y
word_kind_same word ByteOver255 LabelSetTwice x y = absurd y
word_kind_same word ByteOver255 Truncated x y = absurd y
word_kind_same word ByteOver255 TooLong x y = absurd y
word_kind_same word ByteOver255 FrameGivenTwice x y = absurd y
word_kind_same word LabelNotSet LabelNotSet x y = refl
word_kind_same word LabelSetTwice LabelSetTwice x y = refl
word_kind_same word Truncated Truncated x y = refl
word_kind_same word TooLong TooLong x y = refl
word_kind_same word FrameGivenTwice FrameGivenTwice x y = refl
word_kind_same z u v x y = absurd x

kind_same : (before : List Item) (word : List ℕ) (j k : IntcodeKind) → FaultAfter before word j → FaultAfter before word k → j ≡ k
kind_same before word j k (inl x) (inl y) = word_kind_same word j k x y
kind_same before word j k (inl x) (inr q) = absurd (fault_no_item word j q.0 x q.1)
kind_same before word j k (inr p) (inl y) = absurd (fault_no_item word k p.0 y p.1)
kind_same before word j k (inr p) (inr q) =
    let same : p.0 ≡ q.0 = item_same p.0 q.0 p.1.in_range q.1.in_range (p.1.text ∙ sym q.1.text) in
    let h : Some j ≡ Some k = sym p.2 ∙ ap (λ i. item_fault before i) same ∙ q.2 in cc

get-of_take : {X : Type 0} (xs : List X) (n k : ℕ) (x : X) → slice_get (take n xs) k ≡ Some x → (k < n) × (slice_get xs k ≡ Some x)
get-of_take [] n k x at = absurd (let h : None ≡ Some x = ap (λ l. slice_get l k) (sym (take-nil n)) ∙ at in cc)
  where
    take-nil : {X : Type 0} (n : ℕ) → take {A = X} n [] ≡ []
    take-nil zero = refl
    take-nil (suc n) = refl
get-of_take (y ∷ xs) zero k x at = absurd (let h : None ≡ Some x = at in cc)
get-of_take (y ∷ xs) (suc n) zero x at = (omega arith, at)
get-of_take (y ∷ xs) (suc n) (suc k) x at = let r = get-of_take xs n k x at in (omega (arith, r.0), r.1)

-- a label that is set stands at a place
sets-place : (label : ℕ) (items : List Item) → sets label items ≡ true → (j : ℕ) × (slice_get items j ≡ Some (SetLabel label))
sets-place label [] is = absurd (let h : false ≡ true = is in cc)
sets-place label (SetLabel m ∷ items) is = elim (or_cases (m == label) (sets label items) is) [
  | inl e ↦ (0, ap (λ l. Some (SetLabel l)) (eqb-true m label e))
  | inr e ↦ let r = sets-place label items e in (suc r.0, r.1)
]
sets-place label (Instruction f i o ∷ items) is = let r = sets-place label items is in (suc r.0, r.1)
sets-place label (x ∷ items) is = let r = sets-place label items is in (suc r.0, r.1)

frame-place : (items : List Item) → gives_frame items ≡ true → (j n : ℕ) × (slice_get items j ≡ Some (Frame n))
frame-place [] is = absurd (let h : false ≡ true = is in cc)
frame-place (Frame n ∷ items) is = (0, n, refl)
frame-place (x ∷ items) is = let r = frame-place items is in (suc r.0, r.1, r.2)

list_all-make : {X : Type 0} (p : X → Bool) (xs : List X) → ((k : ℕ) (x : X) → slice_get xs k ≡ Some x → p x ≡ true) → list_all p xs ≡ true
list_all-make p [] each = refl
list_all-make p (x ∷ xs) each = ap (λ b. b && list_all p xs) (each 0 x refl) ∙ list_all-make p xs (λ k y at. each (suc k) y at)

few-before : (items : List Item) → IsSegment items → (k : ℕ) (item : Item) → slice_get items k ≡ Some item → nat_lt (length (take k items)) INTCODE_ITEMS ≡ true
few-before items whole k item at =
    let low : k < length items = get_low items k item at in
    lt-ltb (length (take k items)) INTCODE_ITEMS (omega (arith, low, whole.counted, length-take k items))

unset-before : (items : List Item) → IsSegment items → (k label : ℕ) → slice_get items k ≡ Some (SetLabel label) → sets label (take k items) ≡ false
unset-before items whole k label at = grind (arith, sets, sets-place, get-of_take)

no_frame-before : (items : List Item) → IsSegment items → (k n : ℕ) → slice_get items k ≡ Some (Frame n) → gives_frame (take k items) ≡ false
no_frame-before items whole k n at = grind (arith, frame-place, get-of_take)

-- a label that is used in a segment is set before its end
set-before_end : (items : List Item) → IsSegment items → (k : ℕ) → slice_get items k ≡ Some End → (j label : ℕ) (item : Item) → slice_get items j ≡ Some item → IsTrue (item_uses label item) → sets label (take k items) ≡ true
set-before_end items whole k at j label item here uses =
    let place = sets-place label items (whole.used_set j label item here uses) in
    let low : place.0 < length items = get_low items place.0 (SetLabel label) place.1 in
    let last : suc k ≡ length items = whole.ends k at in
    elim (cases_lt place.0 k) [
      | inl before ↦ sets-at label (take k items) place.0 (get-take items k place.0 before ∙ place.1)
      | inr following ↦
          let same : place.0 ≡ k = omega (arith, low, last, following) in
          let h : Some (SetLabel label) ≡ Some End = sym place.1 ∙ ap (λ n. slice_get items n) same ∙ at in absurd (clash label h)
    ]
  where
    clash : (label : ℕ) → Some (SetLabel label) ≡ Some End → ⊥
    clash label h = cc

operand-set-before : (front : List Item) (o : Operand) → ((label : ℕ) → IsTrue (operand_uses label o) → sets label front ≡ true) → operand_is_set front o ≡ true
operand-set-before front (Label l) each = each l (eq-eqb l l refl)
operand-set-before front x each = refl

use-set-before : (front : List Item) (item : Item) → ((label : ℕ) → IsTrue (item_uses label item) → sets label front ≡ true) → use_is_set front item ≡ true
use-set-before front (Instruction f i o) each = operand-set-before front o each
use-set-before front (LabelWord l) each = each l (eq-eqb l l refl)
use-set-before front (SetGlobal n l) each = each l (eq-eqb l l refl)
use-set-before front (SetLabel l) each = refl
use-set-before front _ each = refl

all_set-before : (items : List Item) → IsSegment items → (k : ℕ) → slice_get items k ≡ Some End → all_set (take k items) ≡ true
all_set-before items whole k at = list_all-make (use_is_set (take k items)) (take k items) (λ j item here.
    use-set-before (take k items) item (λ label uses. set-before_end items whole k at j label item (get-of_take items k j item here).1 uses))

none-of_two : (a b : Bool) (x y : IntcodeKind) → a ≡ true → b ≡ true → slice_get ((if a then [] else x ∷ []) ++ ([] ++ ((if b then [] else y ∷ []) ++ []))) 0 ≡ None
none-of_two true true x y p q = refl
none-of_two true false x y p q = absurd (let h : false ≡ true = q in cc)
none-of_two false b x y p q = absurd (let h : false ≡ true = p in cc)

none-of_label : (a b : Bool) (x y : IntcodeKind) → a ≡ false → b ≡ true → slice_get ([] ++ ((if a then x ∷ [] else []) ++ ((if b then [] else y ∷ []) ++ []))) 0 ≡ None
none-of_label false true x y p q = refl
none-of_label false false x y p q = absurd (let h : false ≡ true = q in cc)
none-of_label true b x y p q = absurd (let h : true ≡ false = p in cc)

none-of_frame : (a b : Bool) (x y : IntcodeKind) → a ≡ false → b ≡ true → slice_get ([] ++ ([] ++ ((if b then [] else y ∷ []) ++ (if a then x ∷ [] else [])))) 0 ≡ None
none-of_frame false true x y p q = refl
none-of_frame false false x y p q = absurd (let h : false ≡ true = q in cc)
none-of_frame true b x y p q = absurd (let h : true ≡ false = p in cc)

none-of_one : (b : Bool) (y : IntcodeKind) → b ≡ true → slice_get ([] ++ ([] ++ ((if b then [] else y ∷ []) ++ []))) 0 ≡ None
none-of_one true y q = refl
none-of_one false y q = absurd (let h : false ≡ true = q in cc)

-- no item of a segment has a fault behind those before it
segment_faultless : (items : List Item) → IsSegment items → (k : ℕ) (item : Item) → slice_get items k ≡ Some item → item_fault (take k items) item ≡ None
segment_faultless items whole k End at = none-of_two (all_set (take k items)) (nat_lt (length (take k items)) INTCODE_ITEMS) LabelNotSet TooLong (all_set-before items whole k at) (few-before items whole k End at)
segment_faultless items whole k (SetLabel l) at = none-of_label (sets l (take k items)) (nat_lt (length (take k items)) INTCODE_ITEMS) LabelSetTwice TooLong (unset-before items whole k l at) (few-before items whole k (SetLabel l) at)
segment_faultless items whole k (Frame n) at = none-of_frame (gives_frame (take k items)) (nat_lt (length (take k items)) INTCODE_ITEMS) FrameGivenTwice TooLong (no_frame-before items whole k n at) (few-before items whole k (Frame n) at)
segment_faultless items whole k x at = none-of_one (nat_lt (length (take k items)) INTCODE_ITEMS) TooLong (few-before items whole k x at)

-- items that a segment begins are not begun: the end is among them
begun_no_segment : (a b c : List Item) → IsSegment a → IsPartial b → b ≡ a ++ c → ⊥
begun_no_segment a b c whole begun is =
    begun.no_end (length a - 1) (ap (λ (l : List Item). slice_get l (length a - 1)) is ∙ get-append a c (length a - 1) End whole.ended)

no_more : (c : List Item) → length c ≡ 0 → c ≡ []
no_more [] is = refl
no_more (i ∷ c) is = absurd (omega arith)

segments_same : (a b : List Item) (x y : List (List ℕ)) → IsSegment a → IsSegment b → map item_text a ++ x ≡ map item_text b ++ y → length a ≤ length b → a ≡ b
segments_same a b x y whole_a whole_b is short =
    let r = same_front a b x y whole_a.in_range whole_b.in_range is short in
    let low : length a - 1 < length a = get_low a (length a - 1) End whole_a.ended in
    let last : suc (length a - 1) ≡ length b = whole_b.ends (length a - 1) (ap (λ (l : List Item). slice_get l (length a - 1)) r.1 ∙ get-append a r.0 (length a - 1) End whole_a.ended) in
    let none : r.0 ≡ [] = no_more r.0 (omega (arith, low, last, ap (λ (l : List Item). length l) r.1, length-append a r.0)) in
    sym (r.1 ∙ ap (λ (l : List Item). a ++ l) none ∙ append-nil a)

-- where a word has a fault behind items, no longer items without a fault begin so
clash : (before items : List Item) (word : List ℕ) (kind : IntcodeKind) (rest y : List (List ℕ)) → AreItems before → AreItems items →
    ((k : ℕ) (item : Item) → slice_get items k ≡ Some item → item_fault (take k items) item ≡ None) →
    FaultAfter before word kind → map item_text before ++ word ∷ rest ≡ map item_text items ++ y → length before < length items → ⊥
clash before items word kind rest y p q faultless bad is short = go r.0 r.1 r.2
  where
    r : (c : List Item) × (items ≡ before ++ c) × (word ∷ rest ≡ map item_text c ++ y)
    r = same_front before items (word ∷ rest) y p q is (omega arith)

    go : (c : List Item) → items ≡ before ++ c → word ∷ rest ≡ map item_text c ++ y → ⊥
    go [] whole words = omega (arith, short, ap (λ (l : List Item). length l) (whole ∙ append-nil before))
    go (i ∷ c) whole words =
        let at : slice_get items (length before) ≡ Some i = ap (λ (l : List Item). slice_get l (length before)) whole ∙ get-seam before i c in
        let front : take (length before) items ≡ before = ap (λ (l : List Item). take (length before) l) whole ∙ take-seam before (i ∷ c) in
        let none : item_fault before i ≡ None = ap (λ (l : List Item). item_fault l i) (sym front) ∙ faultless (length before) i at in
        let same : word ≡ item_text i = first_words word (item_text i) rest (map item_text c ++ y) words in
        no_fault_behind before i kind (q (length before) i at) none (subst (λ (w : List ℕ). FaultAfter before w kind) same bad)
      where
        first_words : (v w : List ℕ) (s t : List (List ℕ)) → v ∷ s ≡ w ∷ t → v ≡ w
        first_words v w s t e = cc

-- what was told where a word has a fault, over all the words
abbrev all_words : (before : List Item) (word : List ℕ) (first rest words : List (List ℕ)) → first ≡ map item_text before ++ word ∷ [] → words ≡ first ++ rest → words ≡ map item_text before ++ word ∷ rest
all_words before word first rest words are is = is ∙ ap (λ (l : List (List ℕ)). l ++ rest) are ∙ append_assoc (map item_text before) (word ∷ []) rest

segment_not_empty : (items : List Item) (rest : List (List ℕ)) → IsSegment items → [] ≡ map item_text items ++ rest → ⊥
segment_not_empty [] rest whole is = let h : None ≡ Some End = whole.ended in cc
segment_not_empty (i ∷ items) rest whole is = cc

fault_not_empty : (before : List Item) (word : List ℕ) (rest : List (List ℕ)) → [] ≡ map item_text before ++ word ∷ rest → ⊥
fault_not_empty [] word rest is = cc
fault_not_empty (i ∷ before) word rest is = cc

cut_not_empty : (before : List Item) → 0 < length before → [] ≡ map item_text before → ⊥
cut_not_empty [] some is = omega arith
cut_not_empty (i ∷ before) some is = cc

segment_fault : (items : List Item) (number : ℕ) (kind : IntcodeKind) (words : List (List ℕ)) → Says (segment items) words → Says (fault number kind) words → ⊥
segment_fault items number kind words s (inl f) =
    let reported = f.2 in
    let is : map item_text reported.before ++ reported.word ∷ f.1 ≡ map item_text items ++ s.0 = sym (all_words reported.before reported.word f.0 f.1 words reported.are f.3) ∙ s.2 in
    elim (cases_lt (length reported.before) (length items)) [
      | inl short ↦ clash reported.before items reported.word kind f.1 s.0 reported.begun.in_range s.1.in_range (segment_faultless items s.1) reported.fault is short
      | inr long ↦ let r = same_front items reported.before s.0 (reported.word ∷ f.1) s.1.in_range reported.begun.in_range (sym is) long in begun_no_segment items reported.before r.0 s.1 reported.begun r.1
    ]
segment_fault items number kind words s (inr f) =
    let reported = f.1 in
    let is : map item_text items ++ s.0 ≡ map item_text reported.before ++ [] = sym s.2 ∙ reported.are ∙ sym (append-nil (map item_text reported.before)) in
    elim (cases_lt (length reported.before) (length items)) [
      | inl short ↦ absurd (omega (arith, short, ap (λ (l : List (List ℕ)). length l) is, length-append (map item_text items) s.0, length-append (map item_text reported.before) [], length-map items item_text, length-map reported.before item_text))
      | inr long ↦ let r = same_front items reported.before s.0 [] s.1.in_range reported.begun.in_range is long in begun_no_segment items reported.before r.0 s.1 reported.begun r.1
    ]

nothing_fault : (number : ℕ) (kind : IntcodeKind) (words : List (List ℕ)) → words ≡ [] → Says (fault number kind) words → ⊥
nothing_fault number kind words none (inl f) = fault_not_empty f.2.before f.2.word f.1 (sym none ∙ all_words f.2.before f.2.word f.0 f.1 words f.2.are f.3)
nothing_fault number kind words none (inr f) = cut_not_empty f.1.before f.1.some (sym none ∙ f.1.are)

fault_cut : (m n : ℕ) (j : IntcodeKind) (words first rest : List (List ℕ)) → FaultAt first m j → words ≡ first ++ rest → CutAt words n → ⊥
fault_cut m n j words first rest f are reported =
    let is : map item_text f.before ++ f.word ∷ rest ≡ map item_text reported.before ++ [] = sym (all_words f.before f.word first rest words f.are are) ∙ reported.are ∙ sym (append-nil (map item_text reported.before)) in
    elim (cases_lt (length f.before) (length reported.before)) [
      | inl short ↦ clash f.before reported.before f.word j rest [] f.begun.in_range reported.begun.in_range reported.begun.faultless f.fault is short
      | inr long ↦ omega (arith, long, ap (λ (l : List (List ℕ)). length l) is, length-append (map item_text f.before) (f.word ∷ rest), length-append (map item_text reported.before) [], length-map f.before item_text, length-map reported.before item_text)
    ]

faults_same : (m n : ℕ) (j k : IntcodeKind) (words a x b y : List (List ℕ)) → FaultAt a m j → words ≡ a ++ x → FaultAt b n k → words ≡ b ++ y → (m ≡ n) × (j ≡ k)
faults_same m n j k words a x b y f is_a g is_b =
    elim (cases_lt (length f.before) (length g.before)) [
      | inl short ↦ absurd (clash f.before g.before f.word j x (g.word ∷ y) f.begun.in_range g.begun.in_range g.begun.faultless f.fault is short)
      | inr long ↦ elim (cases_lt (length g.before) (length f.before)) [
        | inl short ↦ absurd (clash g.before f.before g.word k y (f.word ∷ x) g.begun.in_range f.begun.in_range f.begun.faultless g.fault (sym is) short)
        | inr short ↦
            let r = same_front f.before g.before (f.word ∷ x) (g.word ∷ y) f.begun.in_range g.begun.in_range is short in
            let none : r.0 ≡ [] = no_more r.0 (omega (arith, long, short, ap (λ (l : List Item). length l) r.1, length-append f.before r.0)) in
            let same : g.before ≡ f.before = r.1 ∙ ap (λ (l : List Item). f.before ++ l) none ∙ append-nil f.before in
            let word : f.word ≡ g.word = first_words f.word g.word x y (r.2 ∙ ap (λ (l : List Item). map item_text l ++ g.word ∷ y) none) in
            let following : FaultAfter f.before f.word k = subst (λ (l : List Item). FaultAfter l f.word k) same (subst (λ (w : List ℕ). FaultAfter g.before w k) (sym word) g.fault) in
            (f.place ∙ ap (λ (l : List Item). length l + 1) (sym same) ∙ sym g.place, kind_same f.before f.word j k f.fault following)
      ]
    ]
  where
    is : map item_text f.before ++ f.word ∷ x ≡ map item_text g.before ++ g.word ∷ y
    is = sym (all_words f.before f.word a x words f.are is_a) ∙ all_words g.before g.word b y words g.are is_b

    first_words : (v w : List ℕ) (s t : List (List ℕ)) → v ∷ s ≡ w ∷ t → v ≡ w
    first_words v w s t e = cc

cuts_same : (words : List (List ℕ)) (m n : ℕ) → CutAt words m → CutAt words n → m ≡ n
cuts_same words m n f g =
    omega (arith, f.place, g.place, ap (λ (l : List (List ℕ)). length l) (sym f.are ∙ g.are), length-map f.before item_text, length-map g.before item_text)

one_fault : (m n : ℕ) (j k : IntcodeKind) (words : List (List ℕ)) → Says (fault m j) words → Says (fault n k) words → (m ≡ n) × (j ≡ k)
one_fault m n j k words (inl f) (inl g) = faults_same m n j k words f.0 f.1 g.0 g.1 f.2 f.3 g.2 g.3
one_fault m n j k words (inl f) (inr g) = absurd (fault_cut m n j words f.0 f.1 f.2 f.3 g.1)
one_fault m n j k words (inr f) (inl g) = absurd (fault_cut n m k words g.0 g.1 g.2 g.3 f.1)
one_fault m n j k words (inr f) (inr g) = (cuts_same words m n f.1 g.1, f.0 ∙ sym g.0)

pub one_saying : SayOneThing
one_saying words (segment a) (segment b) s t = grind (arith, segments_same)
one_saying words (segment a) nothing s t = absurd (segment_not_empty a s.0 s.1 (sym t ∙ s.2))
one_saying words (segment a) (fault n k) s t = absurd (segment_fault a n k words s t)
one_saying words nothing (segment b) s t = absurd (segment_not_empty b t.0 t.1 (sym s ∙ t.2))
one_saying words nothing nothing s t = refl
one_saying words nothing (fault n k) s t = absurd (nothing_fault n k words s t)
one_saying words (fault m j) (segment b) s t = absurd (segment_fault b m j words t s)
one_saying words (fault m j) nothing s t = absurd (nothing_fault m j words t s)
one_saying words (fault m j) (fault n k) s t = let h = one_fault m n j k words s t in ap (λ i. fault i j) h.0 ∙ ap (λ i. fault n i) h.1
