-- The labels and the largest frame of items, one item more.
use Rattle.bk_intcode.proofs.Terms.{◌≡◌, ◌≢◌, ℕ, ◌++◌, ◌||◌, ◌==◌, if◌then◌else◌, Bool, true, false, List, [], ◌∷◌, refl, ◌∙◌, ap, sets, item_sets, is_frame, gives_frame, Item, Instruction, SetLabel, Frame}

or_assoc : (a b c : Bool) → (a || (b || c)) ≡ ((a || b) || c)
or_assoc true b c = refl
or_assoc false b c = refl

or_false : (a : Bool) → (a || false) ≡ a
or_false true = refl
or_false false = refl

pub sets-push : (label : ℕ) (items : List Item) (item : Item) → sets label (items ++ item ∷ []) ≡ (sets label items || item_sets label item)
sets-push label [] item = or_false (item_sets label item)
sets-push label (i ∷ items) item = ap (λ b. item_sets label i || b) (sets-push label items item) ∙ or_assoc (item_sets label i) (sets label items) (item_sets label item)

pub gives_frame-push : (items : List Item) (item : Item) → gives_frame (items ++ item ∷ []) ≡ (gives_frame items || is_frame item)
gives_frame-push [] item = or_false (is_frame item)
gives_frame-push (i ∷ items) item = ap (λ b. is_frame i || b) (gives_frame-push items item) ∙ or_assoc (is_frame i) (gives_frame items) (is_frame item)

-- an item that sets no label
no_set : (item : Item) → ((l : ℕ) → item ≢ SetLabel l) → (label : ℕ) → item_sets label item ≡ false
no_set (SetLabel l) other label = absurd (other l refl)
no_set (Instruction f i o) other label = refl
no_set _ other label = refl

-- an item that gives no frame
no_frame : (item : Item) → ((n : ℕ) → item ≢ Frame n) → is_frame item ≡ false
no_frame (Frame n) other = absurd (other n refl)
no_frame x other = refl

pub sets-other : (label : ℕ) (items all : List Item) (item : Item) → all ≡ items ++ item ∷ [] → ((l : ℕ) → item ≢ SetLabel l) → sets label all ≡ sets label items
sets-other label items all item is other =
    ap (sets label) is ∙ sets-push label items item ∙ ap (λ b. sets label items || b) (no_set item other label) ∙ or_false (sets label items)

pub gives_frame-other : (items all : List Item) (item : Item) → all ≡ items ++ item ∷ [] → ((n : ℕ) → item ≢ Frame n) → gives_frame all ≡ gives_frame items
gives_frame-other items all item is other =
    ap gives_frame is ∙ gives_frame-push items item ∙ ap (λ b. gives_frame items || b) (no_frame item other) ∙ or_false (gives_frame items)

or_true : (a : Bool) → (a || true) ≡ true
or_true true = refl
or_true false = refl

pub gives_frame-frame : (items all : List Item) (n : ℕ) → all ≡ items ++ Frame n ∷ [] → gives_frame all ≡ true
gives_frame-frame items all n is = ap gives_frame is ∙ gives_frame-push items (Frame n) ∙ or_true (gives_frame items)

pub sets-label : (label : ℕ) (items all : List Item) (l : ℕ) → all ≡ items ++ SetLabel l ∷ [] → sets label all ≡ (sets label items || (l == label))
sets-label label items all l is = ap (sets label) is ∙ sets-push label items (SetLabel l)

pub cond_or : (t a : Bool) → (if t then true else a) ≡ (a || t)
cond_or true true = refl
cond_or true false = refl
cond_or false true = refl
cond_or false false = refl
