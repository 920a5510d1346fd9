-- A test of segments that computes: items that pass it are a segment.
use Rattle.std.proofs.Common.{◌≡◌, ◌^◌, ℕ, ℤ, nat_lt, FitsSigned, w32, zero, suc, ◌-◌, Bool, true, false, List, [], ◌∷◌, length, Some, refl, ap, sym, ◌∙◌, subst, arith}
use lib.Signed.{mag}
use Rattle.std.specs.Prelude.{slice_get, nat_le, not, ◌&&◌, ◌||◌, ◌==◌}
use Rattle.std.proofs.lemmas.Bool.{or_right, eq-eqb, eqb-true, leb-true, ltb-true, lt-ltb}
use Rattle.bk_base.specs.declared.limit.TheConstants.{GLOBAL_NUMBER, FRAME_WORDS, FRAME_WORDS_LEAST, INTCODE_ITEMS, INTCODE_LABEL}
use Rattle.bk_machine.specs.declared.item.Operand.{Operand}
use Rattle.bk_machine.specs.declared.item.Operand.TheVariants.{Number, Local, Global, Label}
use Rattle.bk_machine.specs.declared.item.Item.{Item}
use Rattle.bk_machine.specs.declared.item.Item.TheVariants.{Instruction, SetLabel, Byte, Word, LabelWord, SetGlobal, Frame, End}
use Rattle.bk_machine.specs.Segment.{IsSegment, IsLabel, IsItem, IsOperand, item_uses, operand_uses, item_sets, sets, operand_is_set, use_is_set, is_frame, gives_frame}

both : (a b : Bool) → (a && b) ≡ true → (a ≡ true) × (b ≡ true)
both true b e = (refl, e)
both false b e = cc

contradiction : {P : Type 0} → (b : Bool) → not b ≡ true → b ≡ true → P
contradiction true e h = cc
contradiction false e h = cc

the_item : (a b : Item) → Some a ≡ Some b → a ≡ b
the_item a b e = cc

-- ---- the end

abbrev pub is_end : Item → Bool
is_end End = true
is_end (Instruction f i operand) = false
is_end (SetLabel l) = false
is_end (Byte b) = false
is_end (Word w) = false
is_end (LabelWord l) = false
is_end (SetGlobal n l) = false
is_end (Frame n) = false

abbrev pub ends_once : List Item → Bool
ends_once [] = false
ends_once (item ∷ []) = is_end item
ends_once (item ∷ next ∷ rest) = not (is_end item) && ends_once (next ∷ rest)

end_is : (item : Item) → is_end item ≡ true → Some item ≡ Some End
end_is End e = refl
end_is (Instruction f i operand) e = cc
end_is (SetLabel l) e = cc
end_is (Byte b) e = cc
end_is (Word w) e = cc
end_is (LabelWord l) e = cc
end_is (SetGlobal n l) e = cc
end_is (Frame n) e = cc

ends : (items : List Item) → ends_once items ≡ true → (k : ℕ) → slice_get items k ≡ Some End → suc k ≡ length items
ends [] e k h = cc
ends (item ∷ []) e zero h = refl
ends (item ∷ []) e (suc k) h = cc
ends (item ∷ next ∷ rest) e zero h =
    let parts = both (not (is_end item)) (ends_once (next ∷ rest)) e in
    contradiction (is_end item) parts.0 (ap is_end (the_item item End h))
ends (item ∷ next ∷ rest) e (suc k) h =
    let parts = both (not (is_end item)) (ends_once (next ∷ rest)) e in
    ap (λ n. suc n) (ends (next ∷ rest) parts.1 k h)

ended : (items : List Item) → ends_once items ≡ true → slice_get items (length items - 1) ≡ Some End
ended [] e = cc
ended (item ∷ []) e = end_is item e
ended (item ∷ next ∷ rest) e =
    let parts = both (not (is_end item)) (ends_once (next ∷ rest)) e in
    let place : length (item ∷ next ∷ rest) - 1 ≡ suc (length (next ∷ rest) - 1) = omega arith in
    ap (λ k. slice_get (item ∷ next ∷ rest) k) place ∙ ended (next ∷ rest) parts.1

-- ---- labels

abbrev pub is_fresh : Item → List Item → Bool
is_fresh (SetLabel l) rest = not (sets l rest)
is_fresh (Instruction f i operand) rest = true
is_fresh (Byte b) rest = true
is_fresh (Word w) rest = true
is_fresh (LabelWord l) rest = true
is_fresh (SetGlobal n l) rest = true
is_fresh (Frame n) rest = true
is_fresh End rest = true

abbrev pub sets_once : List Item → Bool
sets_once [] = true
sets_once (item ∷ rest) = is_fresh item rest && sets_once rest

got_sets : (items : List Item) (k label : ℕ) → slice_get items k ≡ Some (SetLabel label) → sets label items ≡ true
got_sets [] k label h = cc
got_sets (item ∷ rest) zero label h =
    subst (λ i. (item_sets label i || sets label rest) ≡ true) (sym (the_item item (SetLabel label) h)) (here (eq-eqb label label refl))
  where
    here : (label == label) ≡ true → ((label == label) || sets label rest) ≡ true
    here e = rw e refl
got_sets (item ∷ rest) (suc k) label h = or_right (item_sets label item) (sets label rest) (got_sets rest k label h)

fresh_is : (item : Item) (rest : List Item) (label : ℕ) → item ≡ SetLabel label → is_fresh item rest ≡ true → not (sets label rest) ≡ true
fresh_is item rest label is e = subst (λ i. is_fresh i rest ≡ true) is e

once : (items : List Item) → sets_once items ≡ true → (j k label : ℕ) → slice_get items j ≡ Some (SetLabel label) → slice_get items k ≡ Some (SetLabel label) → j ≡ k
once [] e j k label a b = cc
once (item ∷ rest) e zero zero label a b = refl
once (item ∷ rest) e zero (suc k) label a b =
    let parts = both (is_fresh item rest) (sets_once rest) e in
    contradiction (sets label rest) (fresh_is item rest label (the_item item (SetLabel label) a) parts.0) (got_sets rest k label b)
once (item ∷ rest) e (suc j) zero label a b =
    let parts = both (is_fresh item rest) (sets_once rest) e in
    contradiction (sets label rest) (fresh_is item rest label (the_item item (SetLabel label) b) parts.0) (got_sets rest j label a)
once (item ∷ rest) e (suc j) (suc k) label a b =
    let parts = both (is_fresh item rest) (sets_once rest) e in
    ap (λ n. suc n) (once rest parts.1 j k label a b)

label_set : (all : List Item) (l label : ℕ) → sets l all ≡ true → (l == label) ≡ true → sets label all ≡ true
label_set all l label e h = subst (λ n. sets n all ≡ true) (eqb-true l label h) e

operand_set : (all : List Item) (operand : Operand) (label : ℕ) → operand_is_set all operand ≡ true → operand_uses label operand ≡ true → sets label all ≡ true
operand_set all (Label l) label e h = label_set all l label e h
operand_set all (Number n) label e h = cc
operand_set all (Local n) label e h = cc
operand_set all (Global n) label e h = cc

item_set : (all : List Item) (item : Item) (label : ℕ) → use_is_set all item ≡ true → item_uses label item ≡ true → sets label all ≡ true
item_set all (Instruction f i operand) label e h = operand_set all operand label e h
item_set all (LabelWord l) label e h = label_set all l label e h
item_set all (SetGlobal n l) label e h = label_set all l label e h
item_set all (SetLabel l) label e h = cc
item_set all (Byte b) label e h = cc
item_set all (Word w) label e h = cc
item_set all (Frame n) label e h = cc
item_set all End label e h = cc

-- ---- frames and ranges

abbrev pub frames_once : List Item → Bool
frames_once [] = true
frames_once (item ∷ rest) = not (is_frame item && gives_frame rest) && frames_once rest

got_frame : (items : List Item) (k n : ℕ) → slice_get items k ≡ Some (Frame n) → gives_frame items ≡ true
got_frame [] k n h = cc
got_frame (item ∷ rest) zero n h = subst (λ i. (is_frame i || gives_frame rest) ≡ true) (sym (the_item item (Frame n) h)) refl
got_frame (item ∷ rest) (suc k) n h = or_right (is_frame item) (gives_frame rest) (got_frame rest k n h)

both_true : (a b : Bool) → a ≡ true → b ≡ true → (a && b) ≡ true
both_true a b x y = rw (x, y) refl

one_frame : (items : List Item) → frames_once items ≡ true → (j k m n : ℕ) → slice_get items j ≡ Some (Frame m) → slice_get items k ≡ Some (Frame n) → j ≡ k
one_frame [] e j k m n a b = cc
one_frame (item ∷ rest) e zero zero m n a b = refl
one_frame (item ∷ rest) e zero (suc k) m n a b =
    let parts = both (not (is_frame item && gives_frame rest)) (frames_once rest) e in
    contradiction (is_frame item && gives_frame rest) parts.0 (both_true (is_frame item) (gives_frame rest) (ap is_frame (the_item item (Frame m) a)) (got_frame rest k n b))
one_frame (item ∷ rest) e (suc j) zero m n a b =
    let parts = both (not (is_frame item && gives_frame rest)) (frames_once rest) e in
    contradiction (is_frame item && gives_frame rest) parts.0 (both_true (is_frame item) (gives_frame rest) (ap is_frame (the_item item (Frame n) b)) (got_frame rest j m a))
one_frame (item ∷ rest) e (suc j) (suc k) m n a b =
    let parts = both (not (is_frame item && gives_frame rest)) (frames_once rest) e in
    ap (λ i. suc i) (one_frame rest parts.1 j k m n a b)

abbrev pub is_label : ℕ → Bool
is_label l = nat_le 1 l && nat_le l INTCODE_LABEL

label_in_range : (l : ℕ) → is_label l ≡ true → IsLabel l
label_in_range l e = let parts = both (nat_le 1 l) (nat_le l INTCODE_LABEL) e in (leb-true 1 l parts.0, leb-true l INTCODE_LABEL parts.1)

abbrev pub is_word : ℤ → Bool
is_word z = nat_lt (mag z) (2 ^ 31)

word_in_range : (z : ℤ) → is_word z ≡ true → FitsSigned w32 z
word_in_range z e = record { sfits = ltb-true (mag z) (2 ^ 31) e }

abbrev pub operand_is_in_range : Operand → Bool
operand_is_in_range (Label l) = is_label l
operand_is_in_range (Number n) = is_word n
operand_is_in_range (Local n) = is_word n
operand_is_in_range (Global n) = is_word n

operand_in_range : (operand : Operand) → operand_is_in_range operand ≡ true → IsOperand operand
operand_in_range (Label l) e = label_in_range l e
operand_in_range (Number n) e = word_in_range n e
operand_in_range (Local n) e = word_in_range n e
operand_in_range (Global n) e = word_in_range n e

abbrev pub is_in_range : Item → Bool
is_in_range (Instruction f i operand) = operand_is_in_range operand
is_in_range (SetLabel l) = is_label l
is_in_range (LabelWord l) = is_label l
is_in_range (SetGlobal n l) = nat_le n GLOBAL_NUMBER && is_label l
is_in_range (Frame n) = nat_le FRAME_WORDS_LEAST n && nat_le n FRAME_WORDS
is_in_range (Byte b) = nat_lt b 256
is_in_range (Word w) = is_word w
is_in_range End = true

in_range : (item : Item) → is_in_range item ≡ true → IsItem item
in_range (Instruction f i operand) e = operand_in_range operand e
in_range (SetLabel l) e = label_in_range l e
in_range (LabelWord l) e = label_in_range l e
in_range (SetGlobal n l) e = let parts = both (nat_le n GLOBAL_NUMBER) (is_label l) e in (leb-true n GLOBAL_NUMBER parts.0, label_in_range l parts.1)
in_range (Frame n) e = let parts = both (nat_le FRAME_WORDS_LEAST n) (nat_le n FRAME_WORDS) e in (leb-true FRAME_WORDS_LEAST n parts.0, leb-true n FRAME_WORDS parts.1)
in_range (Byte b) e = ltb-true b 256 e
in_range (Word w) e = word_in_range w e
in_range End e = tt

-- ---- a test of each item

abbrev pub are_all : (Item → Bool) → List Item → Bool
are_all test [] = true
are_all test (item ∷ rest) = test item && are_all test rest

each : (test : Item → Bool) (items : List Item) → are_all test items ≡ true → (k : ℕ) (item : Item) → slice_get items k ≡ Some item → test item ≡ true
each test [] e k item h = cc
each test (first ∷ rest) e zero item h =
    let parts = both (test first) (are_all test rest) e in subst (λ i. test i ≡ true) (the_item first item h) parts.0
each test (first ∷ rest) e (suc k) item h =
    let parts = both (test first) (are_all test rest) e in each test rest parts.1 k item h

abbrev pub is_segment : List Item → Bool
is_segment items =
    ends_once items && (sets_once items && (are_all (use_is_set items) items && (frames_once items && (are_all is_in_range items && nat_le (length items) INTCODE_ITEMS))))

pub checked : (items : List Item) → is_segment items ≡ true → IsSegment items
checked items e =
    let end = both (ends_once items) _ e in
    let label = both (sets_once items) _ end.1 in
    let used = both (are_all (use_is_set items) items) _ label.1 in
    let frame = both (frames_once items) _ used.1 in
    let range = both (are_all is_in_range items) _ frame.1 in
    record {
      ends = ends items end.0;
      ended = ended items end.0;
      set_once = once items label.0;
      used_set = λ k l item at in_use. item_set items item l (each (use_is_set items) items used.0 k item at) in_use;
      one_frame = one_frame items frame.0;
      in_range = λ k item at. in_range item (each is_in_range items range.0 k item at);
      counted = leb-true (length items) INTCODE_ITEMS range.1;
    }

-- a word of 32 bits passes its test
pub word_is : (z : ℤ) → FitsSigned w32 z → is_word z ≡ true
word_is z fits = lt-ltb (mag z) (2 ^ 31) fits.sfits
