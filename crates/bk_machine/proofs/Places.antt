-- Where labels are set, and what a table of them holds.
pub use Rattle.bk_machine.proofs.Terms.{◌≡◌, ℕ, zero, suc, ◌+◌, ◌<◌, ◌≤◌, Bool, true, false, cond, eqb, List, [], ◌∷◌, ◌++◌, length, get_or, take, refl, sym, ap, ◌∙◌, arith, ◌||◌, Some, inl, inr, cases_Bool, eqb-true, eqb-false, eq-eqb, ne_eqb, or_cases, or_parts, or_right, false_from_ne_true, take_more, take_all, Item, SetLabel, SetGlobal, IsSegment, item_sets, sets, label_place, label_number, segment_size, slice_get, if◌then◌else◌, ◌==◌, ◌-◌, set, drop, map, length-append, append_assoc, drop_more, map_more, append-nil, drop_all, length-set, set-append_left, fold-append, fold_push, Instruction, items_of, Setting, Growth, SEGMENTS, grown, library_settings, item_settings, segment_settings, all_settings, all_words, with_setting, segment_words, stack_start, loaded_store, placed, AreSegments, AreBounded, settings_joined, items_bounded, segments_bounded, library_bounded, settings_length, below, below_length, stack_more, grown_after, fold, replicate, padded, segment_whole, segment_length, unwrap_or, get, nat_eq, STORE_MOST, reached_all, frame_of, starts}

-- what a table holds after so many items
abbrev pub numbered : ℕ → List Item → ℕ → ℕ → ℕ → ℕ
numbered start items end i label = if sets label (take i items) then label_number start items label else end

-- an item of a list, as it is read and as it is looked up
pub got : {X : Type 0} → (xs : List X) (i : ℕ) (d x : X) → i < length xs → get_or xs i d ≡ x → slice_get xs i ≡ Some x
got [] i d x within e = absurd (omega arith)
got (y ∷ xs) zero d x within e = ap (λ z. Some z) e
got (y ∷ xs) (suc i) d x within e = got xs i d x (omega arith) e

sets_it : (item : Item) (label : ℕ) → item_sets label item ≡ true → item ≡ SetLabel label
sets_it (SetLabel l) label e = ap (λ n. SetLabel n) (eqb-true l label e)
sets_it (SetGlobal number l) label e = cc
sets_it x label e = cc

-- a label that the first items set is set by one of them
before : (items : List Item) (i label : ℕ) → sets label (take i items) ≡ true → (j : ℕ) × (j < i) × (slice_get items j ≡ Some (SetLabel label))
before [] zero label e = cc
before [] (suc i) label e = cc
before (item ∷ items) zero label e = cc
before (item ∷ items) (suc i) label e =
    elim (or_cases (item_sets label item) (sets label (take i items)) e) [
      | inl here ↦ (zero, omega arith, ap (λ z. Some z) (sets_it item label here))
      | inr later ↦ let found = before items i label later in (suc found.0, omega arith, found.2)
    ]

not_before : (items : List Item) (i label : ℕ) → IsSegment items → slice_get items i ≡ Some (SetLabel label) → sets label (take i items) ≡ false
not_before items i label whole at =
    false_from_ne_true (sets label (take i items)) (λ e.
    let found = before items i label e in
    let same : found.0 ≡ i = whole.set_once found.0 i label found.2 at in
    absurd (omega arith))

sets-append : (label : ℕ) (xs ys : List Item) → sets label (xs ++ ys) ≡ (sets label xs || sets label ys)
sets-append label [] ys = refl
sets-append label (x ∷ xs) ys = or_step (item_sets label x) _ _ _ (sets-append label xs ys)
  where
    or_step : (a b c d : Bool) → b ≡ (c || d) → (a || b) ≡ ((a || c) || d)
    or_step true b c d e = refl
    or_step false b c d e = e

pub or_false : (b : Bool) → (b || false) ≡ b
or_false true = refl
or_false false = refl

sets-more : (label : ℕ) (items : List Item) (i : ℕ) (d : Item) → i < length items
    → sets label (take (i + 1) items) ≡ (sets label (take i items) || item_sets label (get_or items i d))
sets-more label items i d within =
    ap (λ l. sets label l) (take_more items i d within)
    ∙ sets-append label (take i items) (get_or items i d ∷ [])
    ∙ ap (λ b. sets label (take i items) || b) (or_false (item_sets label (get_or items i d)))

place-first : (items : List Item) (i label : ℕ) (d : Item) → i < length items → sets label (take i items) ≡ false
    → item_sets label (get_or items i d) ≡ true → label_place label items ≡ i
place-first [] i label d within none here = absurd (omega arith)
place-first (item ∷ items) zero label d within none here = rw here refl
place-first (item ∷ items) (suc i) label d within none here =
    let parts = or_parts (item_sets label item) (sets label (take i items)) none in
    rw parts.0 (ap (λ n. suc n) (place-first items i label d (omega arith) parts.1 here))

place-none : (items : List Item) (label : ℕ) → sets label items ≡ false → label_place label items ≡ length items
place-none [] label none = refl
place-none (item ∷ items) label none =
    let parts = or_parts (item_sets label item) (sets label items) none in
    rw parts.0 (ap (λ n. suc n) (place-none items label parts.1))

-- an item that sets a label gives it its number
pub table-set : (start end i label number : ℕ) (items : List Item) (numbers changed : ℕ → ℕ) (d : Item) → IsSegment items → i < length items
    → get_or items i d ≡ SetLabel label → number ≡ start + segment_size (take i items)
    → ((l : ℕ) → numbers l ≡ numbered start items end i l)
    → ((l : ℕ) → changed l ≡ (if l == label then number else numbers l))
    → (l : ℕ) → changed l ≡ numbered start items end (i + 1) l
table-set start end i label number items numbers changed d whole within is count table change l =
    let more = sets-more l items i d within ∙ ap (λ x. sets l (take i items) || item_sets l x) is in
    elim (cases_Bool (eqb l label)) [
      | inl same ↦
          let named : l ≡ label = eqb-true l label same in
          let sets_l : item_sets l (get_or items i d) ≡ true = ap (λ x. item_sets l x) is ∙ eq-eqb label l (sym named) in
          let place = place-first items i l d within (not_before items i l whole (got items i d (SetLabel l) within (is ∙ ap (λ n. SetLabel n) (sym named)))) sets_l in
          let set_now : sets l (take (i + 1) items) ≡ true = more ∙ or_right (sets l (take i items)) (eqb label l) (eq-eqb label l (sym named)) in
          change l ∙ rw (same, set_now, place) count
      | inr other ↦
          let not_it : eqb label l ≡ false = ne_eqb label l (λ e. eqb-false l label other (sym e)) in
          let kept : sets l (take (i + 1) items) ≡ sets l (take i items) = more ∙ ap (λ b. sets l (take i items) || b) not_it ∙ or_false (sets l (take i items)) in
          change l ∙ rw (other, kept) (table l)
    ]

sets_none : (item : Item) → ((label : ℕ) → item ≡ SetLabel label → ⊥) → (label : ℕ) → item_sets label item ≡ false
sets_none item not label = false_from_ne_true (item_sets label item) (λ e. not label (sets_it item label e))

-- any other item leaves the numbers
pub table-kept : (start end i : ℕ) (items : List Item) (numbers : ℕ → ℕ) (d : Item) → i < length items
    → ((label : ℕ) → get_or items i d ≡ SetLabel label → ⊥)
    → ((l : ℕ) → numbers l ≡ numbered start items end i l)
    → (l : ℕ) → numbers l ≡ numbered start items end (i + 1) l
table-kept start end i items numbers d within not table l =
    let kept : sets l (take (i + 1) items) ≡ sets l (take i items) =
    sets-more l items i d within ∙ ap (λ b. sets l (take i items) || b) (sets_none (get_or items i d) not l) ∙ or_false (sets l (take i items)) in
    rw kept (table l)

-- after all items a label that none of them sets has the end
pub table-all : (start end i : ℕ) (items : List Item) → length items ≤ i → end ≡ start + segment_size items
    → (l : ℕ) → numbered start items end i l ≡ label_number start items l
table-all start end i items all is l =
    rw (take_all i items all) (elim (cases_Bool (sets l items)) [
      | inl set ↦ rw set refl
      | inr none ↦
          let place = place-none items l none in
          let whole : take (length items) items ≡ items = take_all (length items) items (omega arith) in
          rw (none, place, whole) is
    ])

pub cond_le : (b : Bool) (x y e : ℕ) → x ≤ e → y ≤ e → cond b x y ≤ e
cond_le true x y e hx hy = hx
cond_le false x y e hx hy = hy
