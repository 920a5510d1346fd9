-- What the store holds before a run, place by place: the start words, the globals after all settings, the library, the words of each
-- segment in its place, and nothing after them.
use Rattle.std.proofs.Common.{◌≡◌, ◌⊎◌, inl, inr, ℕ, zero, suc, ◌+◌, ◌-◌, ◌<◌, ◌≤◌, ◌==◌, Bool, true, false, List, [], ◌∷◌, ◌++◌, length, Option, Some, None, refl, sym, ap, subst, ◌∙◌, arith, append_assoc, if◌then◌else◌}
use Rattle.std.specs.Prelude.{slice_get, slice_set, fold, replicate, ⊤}
use Rattle.std.proofs.lemmas.Bool.{eqb-true, eqb-false}
use Rattle.std.proofs.lemmas.List.{length-append, length-set, length-replicate}
use Rattle.std.proofs.lemmas.Option.{none-some}
use Rattle.bk_base.specs.declared.limit.TheConstants.{GLOBAL_NUMBER}
use Rattle.bk_machine.specs.declared.item.Item.{Item}
use Rattle.bk_machine.specs.declared.item.Item.TheVariants as item
use Rattle.bk_machine.specs.Inner.Getting.{get_inside, get_after, get_set_same, get_set_other, get_replicate}
use Rattle.bk_machine.specs.Placement.{GLOBALS, LIBRARY, SEGMENTS, Setting, start_words, library_words, library_settings, item_settings, segment_settings, all_settings, all_words, segment_words, segment_size, stack_start, label_number, with_setting, unset_store, loaded_store}
use Rattle.bk_machine.specs.Segment.{IsItem, AreItems, IsSegment}
use Rattle.bk_machine.specs.SizeLaws.{segment_length}

-- A segment and the place of its first word.
pub record SegmentAt : Type 0 where
  pub items : List Item
  pub base : ℕ

-- segments one after another, from a place on
abbrev pub segments_at : ℕ → List (List Item) → List SegmentAt
segments_at base [] = []
segments_at base (items ∷ rest) = record { items = items; base = base } ∷ segments_at (base + segment_size items) rest

abbrev pub AreSegments : List (List Item) → Type 0
AreSegments [] = ⊤
AreSegments (items ∷ rest) = IsSegment items × AreSegments rest

-- what a global holds after settings, one after another
abbrev pub value_after : ℕ → List Setting → ℕ → ℕ
value_after global [] value = value
value_after global (setting ∷ rest) value = value_after global rest (if setting.global == global then setting.value else value)

-- Segments are in the order in which they are given, none below the first place, and none where the stack is.
abbrev pub SegmentsLieInOrder : Type 0
SegmentsLieInOrder = (base : ℕ) (all : List (List Item)) (i : ℕ) (x : SegmentAt) → slice_get (segments_at base all) i ≡ Some x
    → (base ≤ x.base) × (x.base + segment_size x.items ≤ stack_start base all)

abbrev pub SegmentsLieApart : Type 0
SegmentsLieApart = (base : ℕ) (all : List (List Item)) (i j : ℕ) (x y : SegmentAt) → slice_get (segments_at base all) i ≡ Some x → slice_get (segments_at base all) j ≡ Some y
    → i < j → x.base + segment_size x.items ≤ y.base

-- The store of so many words, with these segments loaded.
pub record IsLoaded (words : ℕ) (all : List (List Item)) (store : List ℕ) : Type 0 where
  pub long : length store ≡ words
  pub start : (place : ℕ) → place < 16 → slice_get store place ≡ slice_get start_words place
  -- the library's settings come first, and then those of the segments
  pub globals : (global : ℕ) → global ≤ GLOBAL_NUMBER → slice_get store (GLOBALS + global) ≡ Some (value_after global (library_settings ++ all_settings SEGMENTS all) 0)
  pub library : (j : ℕ) → j < length library_words → slice_get store (LIBRARY + j) ≡ slice_get library_words j
  -- word j of segment i, with the numbers of its labels there
  pub segments : (i j : ℕ) (x : SegmentAt) → slice_get (segments_at SEGMENTS all) i ≡ Some x → j < segment_size x.items
      → slice_get store (x.base + j) ≡ slice_get (segment_words (label_number x.base x.items) x.items) j
  pub stack : (place : ℕ) → stack_start SEGMENTS all ≤ place → place < words → slice_get store place ≡ Some 0

-- What is loaded, where the segments have room.
abbrev pub LoadedStoreHolds : Type 0
LoadedStoreHolds = (words : ℕ) (all : List (List Item)) → AreSegments all → stack_start SEGMENTS all ≤ words → IsLoaded words all (loaded_store words all)

-- ---- where segments are

abbrev OfSegment : (SegmentAt → Type 0) → Option SegmentAt → Type 0
OfSegment q None = ⊤
OfSegment q (Some x) = q x

pub stack_more : (base : ℕ) (all : List (List Item)) → base ≤ stack_start base all
stack_more base [] = omega arith
stack_more base (items ∷ rest) = omega (arith, stack_more (base + segment_size items) rest)

pub lie_in_order : SegmentsLieInOrder
lie_in_order base [] i x e = absurd (none-some x e)
lie_in_order base (items ∷ rest) zero x e =
    subst (λ o. OfSegment (λ y. (base ≤ y.base) × (y.base + segment_size y.items ≤ stack_start (base + segment_size items) rest)) o) e
    (let z : base ≤ base = omega arith in z, stack_more (base + segment_size items) rest)
lie_in_order base (items ∷ rest) (suc i) x e = let h = lie_in_order (base + segment_size items) rest i x e in (omega (arith, h.0), h.1)

pub lie_apart : SegmentsLieApart
lie_apart base [] i j x y e h lt = absurd (none-some x e)
lie_apart base (items ∷ rest) zero zero x y e h lt = absurd (omega (arith, lt))
lie_apart base (items ∷ rest) zero (suc j) x y e h lt =
    subst (λ o. OfSegment (λ z. z.base + segment_size z.items ≤ y.base) o) e (lie_in_order (base + segment_size items) rest j y h).0
lie_apart base (items ∷ rest) (suc i) zero x y e h lt = absurd (omega (arith, lt))
lie_apart base (items ∷ rest) (suc i) (suc j) x y e h lt = lie_apart (base + segment_size items) rest i j x y e h (omega (arith, lt))

-- ---- settings

-- of items one after another
pub settings_joined : (labels : ℕ → ℕ) (xs ys : List Item) → segment_settings labels (xs ++ ys) ≡ segment_settings labels xs ++ segment_settings labels ys
settings_joined labels [] ys = refl
settings_joined labels (x ∷ xs) ys =
    ap (λ l. item_settings labels x ++ l) (settings_joined labels xs ys) ∙ sym (append_assoc (item_settings labels x) (segment_settings labels xs) (segment_settings labels ys))

abbrev pub AreBounded : List Setting → Type 0
AreBounded [] = ⊤
AreBounded (x ∷ rest) = (x.global ≤ GLOBAL_NUMBER) × AreBounded rest

-- of two lists, of the items of a segment, of all segments, and of the library
pub both_bounded : (xs ys : List Setting) → AreBounded xs → AreBounded ys → AreBounded (xs ++ ys)
both_bounded [] ys h k = k
both_bounded (x ∷ xs) ys h k = (h.0, both_bounded xs ys h.1 k)

item_bounded : (labels : ℕ → ℕ) (i : Item) → IsItem i → AreBounded (item_settings labels i)
item_bounded labels (item.SetGlobal number l) h = (h.0, tt)
item_bounded labels (item.Instruction f i d) h = tt
item_bounded labels (item.SetLabel l) h = tt
item_bounded labels (item.Byte b) h = tt
item_bounded labels (item.Word w) h = tt
item_bounded labels (item.LabelWord l) h = tt
item_bounded labels (item.Frame n) h = tt
item_bounded labels item.End h = tt

pub items_bounded : (labels : ℕ → ℕ) (items : List Item) → AreItems items → AreBounded (segment_settings labels items)
items_bounded labels [] h = tt
items_bounded labels (i ∷ rest) h = both_bounded (item_settings labels i) (segment_settings labels rest) (item_bounded labels i (h 0 i refl)) (items_bounded labels rest (λ k x e. h (suc k) x e))

pub segments_bounded : (base : ℕ) (all : List (List Item)) → AreSegments all → AreBounded (all_settings base all)
segments_bounded base [] are = tt
segments_bounded base (items ∷ rest) are = both_bounded (segment_settings (label_number base items) items) (all_settings (base + segment_size items) rest)
    (items_bounded (label_number base items) items are.0.in_range) (segments_bounded (base + segment_size items) rest are.1)

pub library_bounded : AreBounded library_settings
library_bounded = (omega arith, (omega arith, (omega arith, (omega arith, (omega arith, (omega arith, (omega arith, (omega arith, (omega arith, (omega arith, tt))))))))))

-- all settings of a store are of globals
pub settings_bounded : (all : List (List Item)) → AreSegments all → AreBounded (library_settings ++ all_settings SEGMENTS all)
settings_bounded all are = both_bounded library_settings (all_settings SEGMENTS all) library_bounded (segments_bounded SEGMENTS all are)

-- a place that is no global's keeps its word
pub kept_word : (place : ℕ) (settings : List Setting) (store : List ℕ) → AreBounded settings → (place < 16) ⊎ (1016 ≤ place) → slice_get (fold with_setting store settings) place ≡ slice_get store place
kept_word place [] store h out = refl
kept_word place (x ∷ rest) store h out =
    kept_word place rest (slice_set store (16 + x.global) x.value) h.1 out ∙ get_set_other store (16 + x.global) x.value place (λ e. other x.global h.0 e out)
  where
    other : (g : ℕ) → g ≤ GLOBAL_NUMBER → place ≡ 16 + g → (place < 16) ⊎ (1016 ≤ place) → ⊥
    other g le e (inl lt) = absurd (omega arith)
    other g le e (inr ge) = absurd (omega arith)

-- and a global's has the last value that is set
set_word : (global : ℕ) (settings : List Setting) (store : List ℕ) (v : ℕ) → AreBounded settings → 1016 ≤ length store → slice_get store (16 + global) ≡ Some v
    → slice_get (fold with_setting store settings) (16 + global) ≡ Some (value_after global settings v)
set_word global [] store v h long e = e
set_word global (x ∷ rest) store v h long e =
    set_word global rest (slice_set store (16 + x.global) x.value) (if x.global == global then x.value else v) h.1 (omega (arith, long, length-set store (16 + x.global) x.value)) (by_test (x.global == global) refl)
  where
    by_test : (b : Bool) → (x.global == global) ≡ b → slice_get (slice_set store (16 + x.global) x.value) (16 + global) ≡ Some (if b then x.value else v)
    by_test true z =
        ap (λ n. slice_get (slice_set store (16 + x.global) x.value) (16 + n)) (sym (eqb-true x.global global z)) ∙ get_set_same store (16 + x.global) x.value (let g = h.0 in omega arith)
    by_test false z = get_set_other store (16 + x.global) x.value (16 + global) (λ q. eqb-false x.global global z (let p : x.global ≡ global = omega (arith, q) in p)) ∙ e

-- settings keep the length
pub settings_length : (settings : List Setting) (store : List ℕ) → length (fold with_setting store settings) ≡ length store
settings_length [] store = refl
settings_length (x ∷ rest) store = settings_length rest (with_setting store x) ∙ length-set store (16 + x.global) x.value

-- ---- words

words_length : (base : ℕ) (all : List (List Item)) → base + length (all_words base all) ≡ stack_start base all
words_length base [] = let e : base + 0 ≡ base = omega arith in e
words_length base (items ∷ rest) =
    sums base (length (segment_words (label_number base items) items)) (segment_size items) (length (all_words (base + segment_size items) rest))
    (length (segment_words (label_number base items) items ++ all_words (base + segment_size items) rest))
    (segment_length (label_number base items) items) (length-append (segment_words (label_number base items) items) (all_words (base + segment_size items) rest))
    ∙ words_length (base + segment_size items) rest
  where
    sums : (b u n v w : ℕ) → u ≡ n → w ≡ u + v → b + w ≡ (b + n) + v
    sums b u n v w e h = omega arith

abbrev Says : (base : ℕ) (items : List Item) (rest : List (List Item)) (k : ℕ) (tail : List ℕ) → SegmentAt → Type 0
Says base items rest k tail y = k < segment_size y.items → (j : ℕ) × (base + j ≡ y.base + k)
    × (slice_get ((segment_words (label_number base items) items ++ all_words (base + segment_size items) rest) ++ tail) j ≡ slice_get (segment_words (label_number y.base y.items) y.items) k)

first_word : (base : ℕ) (items : List Item) (rest : List (List Item)) (k : ℕ) (tail : List ℕ) (x : SegmentAt) → Some (record { items = items; base = base }) ≡ Some x → Says base items rest k tail x
first_word base items rest k tail x e = subst (λ o. OfSegment (Says base items rest k tail) o) e
    (λ lt. (
      k,
      refl,
      ap (λ l. slice_get l k) (append_assoc (segment_words (label_number base items) items) (all_words (base + segment_size items) rest) tail)
          ∙ get_inside (segment_words (label_number base items) items) (all_words (base + segment_size items) rest ++ tail) k (subst (λ n. k < n) (sym (segment_length (label_number base items) items)) lt),
    ))

-- word k of a segment among those of all
segment_word : (base : ℕ) (all : List (List Item)) (i k : ℕ) (x : SegmentAt) (tail : List ℕ) → slice_get (segments_at base all) i ≡ Some x → k < segment_size x.items
    → (j : ℕ) × (base + j ≡ x.base + k) × (slice_get (all_words base all ++ tail) j ≡ slice_get (segment_words (label_number x.base x.items) x.items) k)
segment_word base [] i k x tail e lt = absurd (none-some x e)
segment_word base (items ∷ rest) zero k x tail e lt = first_word base items rest k tail x e lt
segment_word base (items ∷ rest) (suc i) k x tail e lt =
    let h = segment_word (base + segment_size items) rest i k x tail e lt in
    let ws = segment_words (label_number base items) items in (
      length ws + h.0,
      sums base (length ws) (segment_size items) h.0 (x.base + k) (segment_length (label_number base items) items) h.1,
      ap (λ l. slice_get l (length ws + h.0)) (append_assoc ws (all_words (base + segment_size items) rest) tail) ∙ get_after ws (all_words (base + segment_size items) rest ++ tail) h.0 ∙ h.2,
    )
  where
    sums : (b u n j y : ℕ) → u ≡ n → (b + n) + j ≡ y → b + (u + j) ≡ y
    sums b u n j y e h = omega arith

-- ---- the store

abbrev low : List ℕ
low = start_words ++ replicate 1000 0

low_length : length low ≡ 1016
low_length = length-append start_words (replicate 1000 0) ∙ ap (λ n. 16 + n) (length-replicate {A = ℕ} 1000 0)

-- what is below the segments
abbrev pub below : List ℕ
below = start_words ++ replicate 1000 0 ++ library_words

pub below_length : length below ≡ SEGMENTS
below_length = length-append low library_words ∙ ap (λ n. n + 18) low_length

module _ (words : ℕ) (all : List (List Item)) (are : AreSegments all) (room : stack_start SEGMENTS all ≤ words) where
  abbrev tail : List ℕ
  tail = replicate (words - stack_start SEGMENTS all) 0

  abbrev unset : List ℕ
  unset = unset_store words all

  abbrev loaded : List ℕ
  loaded = loaded_store words all

  abbrev settings : List Setting
  settings = library_settings ++ all_settings SEGMENTS all

  bounded : AreBounded settings
  bounded = settings_bounded all are

  unset_split : unset ≡ below ++ (all_words SEGMENTS all ++ tail)
  unset_split = append_assoc below (all_words SEGMENTS all) tail

  unset_length : length unset ≡ words
  unset_length =
      let a = length-append (below ++ all_words SEGMENTS all) tail in
      let b = length-append below (all_words SEGMENTS all) in
      let c = length-replicate {A = ℕ} (words - stack_start SEGMENTS all) 0 in
      sums (length unset) (length (below ++ all_words SEGMENTS all)) (length tail) (length below) (length (all_words SEGMENTS all)) (stack_start SEGMENTS all) a b c below_length (words_length SEGMENTS all) room
    where
      sums : (u v t h w i : ℕ) → u ≡ v + t → v ≡ h + w → t ≡ words - i → h ≡ SEGMENTS → SEGMENTS + w ≡ i → i ≤ words → u ≡ words
      sums u v t h w i a b c d e f = omega arith

  loaded_length : length loaded ≡ words
  loaded_length = settings_length settings unset ∙ unset_length

  -- below the segments
  unset_low : (place : ℕ) → place < SEGMENTS → slice_get unset place ≡ slice_get below place
  unset_low place lt = ap (λ l. slice_get l place) unset_split ∙ get_inside below (all_words SEGMENTS all ++ tail) place (subst (λ n. place < n) (sym below_length) lt)

  loaded_start : (place : ℕ) → place < 16 → slice_get loaded place ≡ slice_get start_words place
  loaded_start place lt =
      kept_word place settings unset bounded (inl lt) ∙ unset_low place (omega (arith, lt)) ∙ get_inside low library_words place (omega (arith, lt, low_length)) ∙ get_inside start_words (replicate 1000 0) place lt

  unset_global : (global : ℕ) → global ≤ GLOBAL_NUMBER → slice_get unset (16 + global) ≡ Some 0
  unset_global global le =
      unset_low (16 + global) (omega (arith, le)) ∙ get_inside low library_words (16 + global) (omega (arith, le, low_length)) ∙ get_after start_words (replicate 1000 0) global ∙ get_replicate 1000 0 global (omega (arith, le))

  loaded_global : (global : ℕ) → global ≤ GLOBAL_NUMBER → slice_get loaded (GLOBALS + global) ≡ Some (value_after global settings 0)
  loaded_global global le = set_word global settings unset 0 bounded (omega (arith, room, unset_length, stack_more SEGMENTS all)) (unset_global global le)

  loaded_library : (j : ℕ) → j < length library_words → slice_get loaded (LIBRARY + j) ≡ slice_get library_words j
  loaded_library j lt =
      kept_word (LIBRARY + j) settings unset bounded (inr (let z : 1016 ≤ 1016 + j = omega arith in z)) ∙ unset_low (LIBRARY + j) (let z : 1016 + j < 1034 = omega (arith, lt) in z)
      ∙ ap (λ n. slice_get below (n + j)) (sym low_length) ∙ get_after low library_words j

  -- the words of a segment
  loaded_segment : (i j : ℕ) (x : SegmentAt) → slice_get (segments_at SEGMENTS all) i ≡ Some x → j < segment_size x.items
      → slice_get loaded (x.base + j) ≡ slice_get (segment_words (label_number x.base x.items) x.items) j
  loaded_segment i j x at lt =
      let l = lie_in_order SEGMENTS all i x at in
      let r = segment_word SEGMENTS all i j x tail at lt in
      kept_word (x.base + j) settings unset bounded (inr (up x.base l.0)) ∙ ap (λ n. slice_get unset n) (sym r.1) ∙ ap (λ l. slice_get l (SEGMENTS + r.0)) unset_split
      ∙ ap (λ n. slice_get (below ++ (all_words SEGMENTS all ++ tail)) (n + r.0)) (sym below_length) ∙ get_after below (all_words SEGMENTS all ++ tail) r.0 ∙ r.2
    where
      up : (b : ℕ) → SEGMENTS ≤ b → 1016 ≤ b + j
      up b h = omega arith

  -- and after them
  loaded_stack : (place : ℕ) → stack_start SEGMENTS all ≤ place → place < words → slice_get loaded place ≡ Some 0
  loaded_stack place le lt =
      let front = below ++ all_words SEGMENTS all in
      let up = stack_more SEGMENTS all in
      let size : length front ≡ stack_start SEGMENTS all = length-append below (all_words SEGMENTS all) ∙ ap (λ n. n + length (all_words SEGMENTS all)) below_length ∙ words_length SEGMENTS all in
      kept_word place settings unset bounded (inr (above (stack_start SEGMENTS all) up le))
      ∙ ap (λ n. slice_get unset n) (back (length front) (stack_start SEGMENTS all) size le) ∙ get_after front tail (place - stack_start SEGMENTS all)
      ∙ get_replicate (words - stack_start SEGMENTS all) 0 (place - stack_start SEGMENTS all) (omega (arith, le, lt))
    where
      above : (s : ℕ) → SEGMENTS ≤ s → s ≤ place → 1016 ≤ place
      above s h k = omega arith

      back : (n s : ℕ) → n ≡ s → s ≤ place → place ≡ n + (place - s)
      back n s e k = omega arith

-- the store before a run
pub is_loaded : LoadedStoreHolds
is_loaded words all are room = record {
  long = loaded_length words all are room;
  start = loaded_start words all are room;
  globals = loaded_global words all are room;
  library = loaded_library words all are room;
  segments = loaded_segment words all are room;
  stack = loaded_stack words all are room;
}
