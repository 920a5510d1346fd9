-- Settings of globals, and segments that are placed one after another.
use Rattle.bk_machine.specs.declared.segment.Intcode.{Intcode}
use Rattle.bk_machine.proofs.Growing.{growth_of}
use Rattle.bk_machine.proofs.Places.{got, ◌≡◌, ℕ, ◌+◌, ◌-◌, ◌<◌, ◌≤◌, List, [], ◌∷◌, ◌++◌, length, get_or, set, take, drop, refl, sym, ap, ◌∙◌, arith, map, length-append, append_assoc, take_more, drop_more, map_more, append-nil, drop_all, take_all, length-set, set-append_left, fold-append, fold_push, Item, Instruction, SetGlobal, IsSegment, items_of, Setting, Growth, SEGMENTS, grown, library_settings, item_settings, segment_settings, all_settings, all_words, with_setting, segment_size, segment_words, label_number, stack_start, loaded_store, placed, AreSegments, AreBounded, settings_joined, items_bounded, segments_bounded, library_bounded, settings_length, below, below_length, stack_more, grown_after, fold, replicate, padded, segment_whole, segment_length}

-- one more item
pub settings-more : (labels : ℕ → ℕ) (store : List ℕ) (items : List Item) (i : ℕ) (d : Item) → i < length items
    → fold with_setting store (segment_settings labels (take (i + 1) items))
    ≡ fold with_setting (fold with_setting store (segment_settings labels (take i items))) (item_settings labels (get_or items i d))
settings-more labels store items i d within =
    ap (λ l. fold with_setting store (segment_settings labels l)) (take_more items i d within)
    ∙ ap (λ l. fold with_setting store l) (settings_joined labels (take i items) (get_or items i d ∷ []))
    ∙ fold-append with_setting store (segment_settings labels (take i items)) (segment_settings labels (get_or items i d ∷ []))
    ∙ ap (λ l. fold with_setting (fold with_setting store (segment_settings labels (take i items))) l) (append-nil (item_settings labels (get_or items i d)))

-- segments as they are kept
all_whole : (segments : List Intcode) → AreSegments (map items_of segments)
all_whole [] = tt
all_whole (s ∷ segments) = (segment_whole s, all_whole segments)

-- what lies behind the globals stays
pub settings-behind : (store rest : List ℕ) (settings : List Setting) → 1016 ≤ length store → AreBounded settings
    → fold with_setting (store ++ rest) settings ≡ fold with_setting store settings ++ rest
settings-behind store rest [] long within = refl
settings-behind store rest (s ∷ settings) long within =
    let bound : s.global ≤ 999 = within.0 in
    let first : set (store ++ rest) (16 + s.global) s.value ≡ set store (16 + s.global) s.value ++ rest =
    set-append_left store rest (16 + s.global) s.value (omega arith) in
    ap (λ l. fold with_setting l settings) first
    ∙ settings-behind (set store (16 + s.global) s.value) rest settings (omega (arith, length-set store (16 + s.global) s.value)) within.1

pub length-placed : (store : List ℕ) (items : List Item) → length (placed store items) ≡ length store + segment_size items
length-placed store items =
    let labels = label_number (length store) items in
    settings_length (segment_settings labels items) (store ++ segment_words labels items)
    ∙ length-append store (segment_words labels items)
    ∙ ap (λ n. length store + n) (segment_length labels items)

-- placing segments one after another puts all their words behind the store, and sets all their globals
placed-all : (store : List ℕ) (segments : List Intcode) → 1016 ≤ length store
    → fold placed store (map items_of segments)
    ≡ fold with_setting (store ++ all_words (length store) (map items_of segments)) (all_settings (length store) (map items_of segments))
placed-all store [] long = sym (append-nil store)
placed-all store (s ∷ segments) long =
    let items = items_of s in
    let labels = label_number (length store) items in
    let words = segment_words labels items in
    let settings = segment_settings labels items in
    let after = length store + segment_size items in
    let rest = all_words after (map items_of segments) in
    let others = all_settings after (map items_of segments) in
    let size : length (placed store items) ≡ after = length-placed store items in
    let longer : 1016 ≤ length (placed store items) = omega arith in
    let long_words : 1016 ≤ length (store ++ words) = omega (arith, length-append store words) in
    placed-all (placed store items) segments longer
    ∙ ap (λ n. fold with_setting (placed store items ++ all_words n (map items_of segments)) (all_settings n (map items_of segments))) size
    ∙ ap (λ l. fold with_setting l others)
    (sym (settings-behind (store ++ words) rest settings long_words (items_bounded labels items (segment_whole s).in_range))
    ∙ ap (λ l. fold with_setting l settings) (append_assoc store words rest))
    ∙ sym (fold-append with_setting (store ++ (words ++ rest)) settings others)

-- and with the library set
pub length-library : length (fold with_setting below library_settings) ≡ 1034
length-library = settings_length library_settings below ∙ below_length

pub loaded-is : (words : ℕ) (segments : List Intcode)
    → fold placed (fold with_setting below library_settings) (map items_of segments) ++ replicate (words - stack_start SEGMENTS (map items_of segments)) 0
    ≡ loaded_store words (map items_of segments)
loaded-is words segments =
    let base = fold with_setting below library_settings in
    let all = all_words SEGMENTS (map items_of segments) in
    let settings = all_settings SEGMENTS (map items_of segments) in
    let zeros : List ℕ = replicate (words - stack_start SEGMENTS (map items_of segments)) 0 in
    let long : 1016 ≤ length below = omega (arith, below_length) in
    let long_base : 1016 ≤ length base = omega (arith, length-library) in
    let long_all : 1016 ≤ length (base ++ all) = omega (arith, length-append base all) in
    let placed_words : fold placed base (map items_of segments) ≡ fold with_setting (base ++ all) settings =
    placed-all base segments long_base
    ∙ ap (λ n. fold with_setting (base ++ all_words n (map items_of segments)) (all_settings n (map items_of segments))) length-library in
    let library : fold with_setting ((below ++ all) ++ zeros) library_settings ≡ (base ++ all) ++ zeros =
    ap (λ l. fold with_setting l library_settings) (append_assoc below all zeros)
    ∙ settings-behind below (all ++ zeros) library_settings long library_bounded
    ∙ sym (append_assoc base all zeros) in
    ap (λ l. l ++ zeros) placed_words
    ∙ sym (settings-behind (base ++ all) zeros settings long_all (segments_bounded SEGMENTS (map items_of segments) (all_whole segments)))
    ∙ ap (λ l. fold with_setting l settings) (sym library)
    ∙ sym (fold-append with_setting ((below ++ all) ++ zeros) library_settings settings)

-- the first segment of those that are left fits where all do
pub stack-part : (start : ℕ) (segments : List Intcode) (i : ℕ) (d : Intcode) → i < length segments
    → start + segment_size (items_of (get_or segments i d)) ≤ stack_start start (map items_of (drop i segments))
stack-part start segments i d within =
    rw (drop_more segments i d within) (stack_more (start + segment_size (items_of (get_or segments i d))) (map items_of (drop (i + 1) segments)))

pub stack-more : (start : ℕ) (segments : List Intcode) (i : ℕ) (d : Intcode) → i < length segments
    → stack_start start (map items_of (drop i segments))
    ≡ stack_start (start + segment_size (items_of (get_or segments i d))) (map items_of (drop (i + 1) segments))
stack-more start segments i d within = ap (λ l. stack_start start (map items_of l)) (drop_more segments i d within)

-- one more segment
pub placed-more : (store : List ℕ) (segments : List Intcode) (i : ℕ) (d : Intcode) → i < length segments
    → fold placed store (map items_of (take (i + 1) segments)) ≡ placed (fold placed store (map items_of (take i segments))) (items_of (get_or segments i d))
placed-more store segments i d within =
    ap (λ l. fold placed store l) (map_more items_of segments i d within)
    ∙ fold_push placed store (map items_of (take i segments)) (items_of (get_or segments i d))

-- a global that a segment sets is in its range
pub global-within : (items : List Item) (i number label : ℕ) (d : Item) → IsSegment items → i < length items
    → get_or items i d ≡ SetGlobal number label → number ≤ 999
global-within items i number label d whole within is = (whole.in_range i (SetGlobal number label) (got items i d (SetGlobal number label) within is)).0

-- an item that sets no global leaves the settings
pub settings-none : (labels : ℕ → ℕ) (item : Item) → ((number label : ℕ) → item ≡ SetGlobal number label → ⊥) → item_settings labels item ≡ []
settings-none labels (SetGlobal number l) not = absurd (not number l refl)
settings-none labels (Instruction f i operand) not = refl
settings-none labels _ not = refl

-- a segment that is read from those that are left
pub stack-item : (start : ℕ) (segments : List Intcode) (i : ℕ) (s : Intcode) (items : List Item) → i < length segments
    → s ≡ get_or segments i s → items ≡ items_of s → start + segment_size items ≤ stack_start start (map items_of (drop i segments))
stack-item start segments i s items within read shown =
    let e : items ≡ items_of (get_or segments i s) = shown ∙ ap (λ (x : Intcode). items_of x) read in
    rw e (stack-part start segments i s within)

pub stack-next : (start next : ℕ) (segments : List Intcode) (i : ℕ) (s : Intcode) (items : List Item) → i < length segments
    → s ≡ get_or segments i s → items ≡ items_of s → next ≡ start + segment_size items
    → stack_start next (map items_of (drop (i + 1) segments)) ≡ stack_start start (map items_of (drop i segments))
stack-next start next segments i s items within read shown is =
    let e : items ≡ items_of (get_or segments i s) = shown ∙ ap (λ (x : Intcode). items_of x) read in
    ap (λ n. stack_start n (map items_of (drop (i + 1) segments))) (is ∙ ap (λ l. start + segment_size l) e)
    ∙ sym (stack-more start segments i s within)

pub placed-next : (base store next : List ℕ) (segments : List Intcode) (i : ℕ) (s : Intcode) (items : List Item) → i < length segments
    → s ≡ get_or segments i s → items ≡ items_of s → store ≡ fold placed base (map items_of (take i segments)) → next ≡ placed store items
    → next ≡ fold placed base (map items_of (take (i + 1) segments))
placed-next base store next segments i s items within read shown known is =
    let e : items ≡ items_of (get_or segments i s) = shown ∙ ap (λ (x : Intcode). items_of x) read in
    is ∙ ap (λ l. placed store l) e ∙ ap (λ l. placed l (items_of (get_or segments i s))) known ∙ sym (placed-more base segments i s within)

-- the store, filled up with zeros
pub store-whole : (words i : ℕ) (segments : List Intcode) (base store : List ℕ) → base ≡ fold with_setting below library_settings
    → store ≡ fold placed base (map items_of (take i segments)) → length segments ≤ i
    → stack_start (length store) (map items_of (drop i segments)) ≡ stack_start SEGMENTS (map items_of segments)
    → (padded words store ≡ loaded_store words (map items_of segments)) × (length store ≡ stack_start SEGMENTS (map items_of segments))
store-whole words i segments base store library known all rest =
    let size : length store ≡ stack_start SEGMENTS (map items_of segments) =
    sym (ap (λ l. stack_start (length store) (map items_of l)) (drop_all i segments all)) ∙ rest in (
      ap (λ l. l ++ replicate (words - length store) 0)
          (known ∙ ap (λ l. fold placed base (map items_of l)) (take_all i segments all) ∙ ap (λ l. fold placed l (map items_of segments)) library)
          ∙ ap (λ n. fold placed (fold with_setting below library_settings) (map items_of segments) ++ replicate (words - n) 0) size
          ∙ loaded-is words segments,
      size,
    )

-- a global is set
pub settings-set : (labels : ℕ → ℕ) (store now : List ℕ) (items : List Item) (i number label value : ℕ) (d : Item) → i < length items
    → get_or items i d ≡ SetGlobal number label → now ≡ fold with_setting store (segment_settings labels (take i items)) → value ≡ labels label
    → set now (16 + number) value ≡ fold with_setting store (segment_settings labels (take (i + 1) items))
settings-set labels store now items i number label value d within is known gives =
    ap (λ l. set l (16 + number) value) known
    ∙ ap (λ v. set (fold with_setting store (segment_settings labels (take i items))) (16 + number) v) gives
    ∙ sym (settings-more labels store items i d within
    ∙ ap (λ x. fold with_setting (fold with_setting store (segment_settings labels (take i items))) (item_settings labels x)) is)

pub settings-kept : (labels : ℕ → ℕ) (store now : List ℕ) (items : List Item) (i : ℕ) (d : Item) → i < length items
    → ((number label : ℕ) → get_or items i d ≡ SetGlobal number label → ⊥) → now ≡ fold with_setting store (segment_settings labels (take i items))
    → now ≡ fold with_setting store (segment_settings labels (take (i + 1) items))
settings-kept labels store now items i d within not known =
    known
    ∙ sym (settings-more labels store items i d within
    ∙ ap (λ l. fold with_setting (fold with_setting store (segment_settings labels (take i items))) l) (settings-none labels (get_or items i d) not))

-- words that are put behind a store in which globals are set: they reach as far as the store at least
pub grown-long : (labels : ℕ → ℕ) (store words : List ℕ) (filled : ℕ) (settings : List Setting) (items : List Item)
    → growth_of words filled ≡ fold (grown labels) (growth_of (fold with_setting store settings) 0) items → length store ≤ length words
grown-long labels store words filled settings items known =
    let base = fold with_setting store settings in
    let parts : words ≡ base ++ segment_words labels items =
    ap (λ (g : Growth). g.words) (known ∙ grown_after labels base items) in
    omega (arith, ap length parts, length-append base (segment_words labels items), settings_length settings store)

-- an item that sets no global
pub grown-kept : (labels : ℕ → ℕ) (store words : List ℕ) (filled : ℕ) (items : List Item) (i : ℕ) (d : Item) → i < length items
    → ((number label : ℕ) → get_or items i d ≡ SetGlobal number label → ⊥)
    → growth_of words filled ≡ fold (grown labels) (growth_of (fold with_setting store (segment_settings labels (take i items))) 0) (take (i + 1) items)
    → growth_of words filled ≡ fold (grown labels) (growth_of (fold with_setting store (segment_settings labels (take (i + 1) items))) 0) (take (i + 1) items)
grown-kept labels store words filled items i d within not known =
    known ∙ ap (λ l. fold (grown labels) (growth_of l 0) (take (i + 1) items)) (settings-kept labels store _ items i d within not refl)

-- an item that sets one
pub grown-set : (labels : ℕ → ℕ) (store words : List ℕ) (filled : ℕ) (items : List Item) (i number label value : ℕ) (d : Item) → i < length items
    → number ≤ 999 → 1034 ≤ length store → get_or items i d ≡ SetGlobal number label → value ≡ labels label
    → growth_of words filled ≡ fold (grown labels) (growth_of (fold with_setting store (segment_settings labels (take i items))) 0) (take (i + 1) items)
    → growth_of (set words (16 + number) value) filled
    ≡ fold (grown labels) (growth_of (fold with_setting store (segment_settings labels (take (i + 1) items))) 0) (take (i + 1) items)
grown-set labels store words filled items i number label value d within small long is gives known =
    let base = fold with_setting store (segment_settings labels (take i items)) in
    let next = fold with_setting store (segment_settings labels (take (i + 1) items)) in
    let more = take (i + 1) items in
    let whole = known ∙ grown_after labels base more in
    let size = settings_length (segment_settings labels (take i items)) store in
    let words_are : set words (16 + number) value ≡ next ++ segment_words labels more =
    ap (λ (g : Growth). set g.words (16 + number) value) whole
    ∙ set-append_left base (segment_words labels more) (16 + number) value (omega arith)
    ∙ ap (λ l. l ++ segment_words labels more) (settings-set labels store base items i number label value d within is refl gives) in
    ap (λ l. growth_of l filled) words_are
    ∙ ap (λ n. growth_of (next ++ segment_words labels more) n) (ap (λ (g : Growth). g.filled) whole)
    ∙ sym (grown_after labels next more)
