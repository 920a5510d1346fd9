-- Frames as a stack.
use Rattle.bk_frames.proofs.Terms.{◌≡◌, ℕ, zero, suc, Bool, true, if◌then◌else◌, Option, Some, None, append-nil, slice_get, sym, subst, ◌+◌, ◌-◌, ◌<◌, ◌≤◌, List, [], ◌∷◌, ◌++◌, length, get_or, take, refl, ap, ◌∙◌, ◌⊎◌, inl, inr, arith, MatchOption, take-append-add, take-length, Frame, Decl, declarations_in, Stack, in_section, unfinished_on, Size, Leaves, above, stack, spare_under, spare_below, Spared, Ample, AreBudgets, take_more, take_all, take-append-le, length-append}
use Rattle.std.specs.Option.{option_to_list}
use Rattle.std.proofs.lemmas.Option.{slice_get_within, get_or_from_slice_get, slice_get-get_or, slice_get_read}
use Rattle.bk_frames.specs.declared.budget.FrameBudgets.{FrameBudgets}

above_push : (st : Stack) (xs : List Frame) (x : Frame) → above st (xs ++ x ∷ []) ≡ unfinished_on x.unfinished (above st xs)
above_push st [] x = refl
above_push st (y ∷ xs) x = above_push (unfinished_on y.unfinished st) xs x

pub stack_push : (ds : List Decl) (xs : List Frame) (x : Frame) → stack ds (xs ++ x ∷ []) ≡ unfinished_on x.unfinished (stack ds xs)
unfolding stack
stack_push ds xs x = above_push (in_section (declarations_in ds)) xs x

pub stack_none : (ds : List Decl) → stack ds [] ≡ in_section (declarations_in ds)
unfolding stack
stack_none ds = refl

pub ruleset frames_laws = (stack_push, stack_none)

-- one frame more of those below
pub stack_take : (ds : List Decl) (xs : List Frame) (i : ℕ) (x : Frame) → i < length xs → x ≡ get_or xs i x → stack ds (take (i + 1) xs) ≡ unfinished_on x.unfinished (stack ds (take i xs))
stack_take ds xs i x lt is = ap (stack ds) (take_more xs i x lt ∙ ap (λ y. take i xs ++ y ∷ []) (sym is)) ∙ stack_push ds (take i xs) x

-- ---- what is spare

spared_push : (s : Size) (xs : List Frame) (w : Frame) → Spared s xs → Leaves (spare_under s xs) w.unfinished w.spare → Spared s (xs ++ w ∷ [])
unfolding spare_under spare_below
spared_push s [] w h g zero x is = let P : Frame → Type 0 = λ y. Leaves s y.unfinished y.spare in let e : w ≡ x = cc in subst P e g
spared_push s [] w h g (suc i) x is = absurd cc
spared_push s (y ∷ ys) w h g zero x is = h zero x is
spared_push s (y ∷ ys) w h g (suc i) x is = spared_push y.spare ys w (λ j z. h (suc j) z) g i x is

spared_pop : (s : Size) (xs : List Frame) (w : Frame) → Spared s (xs ++ w ∷ []) → Spared s xs
unfolding spare_under spare_below
spared_pop s [] w h i x is = absurd cc
spared_pop s (y ∷ ys) w h zero x is = h zero x is
spared_pop s (y ∷ ys) w h (suc i) x is = spared_pop y.spare ys w (λ j z. h (suc j) z) i x is

pub spared_pushed : (ok : Bool) (s : Size) (xs zs : List Frame) (w : Frame) → zs ≡ (if ok then xs ++ w ∷ [] else xs) → Spared s xs → Leaves (spare_under s xs) w.unfinished w.spare → Spared s zs
spared_pushed ok s xs zs w h1 h2 h3 = grind (arith, spared_push)

pub spared_popped : (r : Option Frame) (s : Size) (xs ys : List Frame) → xs ≡ ys ++ option_to_list r → Spared s xs → Spared s ys
spared_popped None s xs ys is h = let P : List Frame → Type 0 = λ z. Spared s z in subst P (is ∙ append-nil ys) h
spared_popped (Some w) s xs ys is h = let P : List Frame → Type 0 = λ z. Spared s z in spared_pop s ys w (subst P is h)

spare_last : (s : Size) (xs : List Frame) (w : Frame) → spare_under s (xs ++ w ∷ []) ≡ w.spare
unfolding spare_under
spare_last s [] w = refl
spare_last s (y ∷ ys) w = spare_last y.spare ys w

-- ---- the rooms

within_append : (ys zs : List Frame) (i : ℕ) → i < length ys → i < length (ys ++ zs)
within_append ys zs i lt = let e = length-append ys zs in omega (arith, lt, e)

last_within : (ys : List Frame) (w : Frame) → length ys < length (ys ++ w ∷ [])
last_within ys w = let e = length-append ys (w ∷ []) in omega (arith, e)

below_or_at : (i n : ℕ) → i < n + 1 → (i < n) ⊎ (i ≡ n)
below_or_at i n lt = grind (arith, lt)

budgets_in_push : (ds : List Decl) (xs : List Frame) (w : Frame) (rs : List FrameBudgets) → Ample ds xs rs
    → ((r : FrameBudgets) → slice_get rs (length xs) ≡ Some r → AreBudgets true (unfinished_on w.unfinished (stack ds xs)) r.budgets.items) → Ample ds (xs ++ w ∷ []) rs
budgets_in_push ds xs w rs h g i r at lt =
    let n = length-append xs (w ∷ []) in
    let P : Stack → Type 0 = λ z. AreBudgets true z r.budgets.items in
    elim (below_or_at i (length xs) (omega (arith, lt, n))) [
      | inl a ↦ subst P (ap (stack ds) (sym (take-append-le (i + 1) xs (w ∷ []) (omega (arith, a))))) (h i r at a)
      | inr a ↦
          let e : take (i + 1) (xs ++ w ∷ []) ≡ xs ++ w ∷ [] = ap (λ j. take (j + 1) (xs ++ w ∷ [])) a ∙ take-append-add xs (w ∷ []) 1 in
          subst P (sym (ap (stack ds) e ∙ stack_push ds xs w)) (g r (ap (slice_get rs) (sym a) ∙ at))
    ]

pub budgets_pushed : (ok : Bool) (ds : List Decl) (xs zs : List Frame) (w : Frame) (rs : List FrameBudgets) → zs ≡ (if ok then xs ++ w ∷ [] else xs) → Ample ds xs rs
    → ((r : FrameBudgets) → slice_get rs (length xs) ≡ Some r → AreBudgets true (unfinished_on w.unfinished (stack ds xs)) r.budgets.items) → Ample ds zs rs
budgets_pushed ok ds xs zs w rs h1 h2 h3 = grind (arith, budgets_in_push)

pub budgets_popped : (r : Option Frame) (ds : List Decl) (xs ys : List Frame) (rs : List FrameBudgets) → xs ≡ ys ++ option_to_list r → Ample ds xs rs → Ample ds ys rs
budgets_popped r ds xs ys rs is h i x at lt =
    let P : Stack → Type 0 = λ z. AreBudgets true z x.budgets.items in
    let e : take (i + 1) xs ≡ take (i + 1) ys = ap (take (i + 1)) is ∙ take-append-le (i + 1) ys (option_to_list r) (omega (arith, lt)) in
    subst P (ap (stack ds) e) (h i x at (rw is (within_append ys (option_to_list r) i lt)))

-- those of what was taken away
budgets_of_popped : (ds : List Decl) (xs ys : List Frame) (w : Frame) (rs : List FrameBudgets) → xs ≡ ys ++ w ∷ [] → Ample ds xs rs
    → (r : FrameBudgets) → slice_get rs (length ys) ≡ Some r → AreBudgets true (unfinished_on w.unfinished (stack ds ys)) r.budgets.items
budgets_of_popped ds xs ys w rs is h r at =
    let P : Stack → Type 0 = λ z. AreBudgets true z r.budgets.items in
    let e : take (length ys + 1) xs ≡ ys ++ w ∷ [] = ap (take (length ys + 1)) is ∙ take-append-add ys (w ∷ []) 1 in
    subst P (ap (stack ds) e ∙ stack_push ds ys w) (h (length ys) r at (rw is (last_within ys w)))

pub popped_budgets : (w : Option Frame) (ds : List Decl) (xs ys : List Frame) (rs : List FrameBudgets) → xs ≡ ys ++ option_to_list w → Ample ds xs rs
    → MatchOption w (Unit {0}) (λ x. (r : FrameBudgets) → slice_get rs (length ys) ≡ Some r → AreBudgets true (unfinished_on x.unfinished (stack ds ys)) r.budgets.items)
popped_budgets None ds xs ys rs is h = tt
popped_budgets (Some w) ds xs ys rs is h = budgets_of_popped ds xs ys w rs is h

-- ---- the top

pub last_on : (ds : List Decl) (xs : List Frame) (x : Frame) → Some x ≡ slice_get xs (length xs - 1) → stack ds xs ≡ unfinished_on x.unfinished (stack ds (take (length xs - 1) xs))
last_on ds xs x is =
    let i = length xs - 1 in
    let lt : i < length xs = slice_get_within xs i x (sym is) in
    let all : take (i + 1) xs ≡ xs = take_all (i + 1) xs (omega (arith, lt)) in
    ap (stack ds) (sym all) ∙ stack_take ds xs i x lt (sym (get_or_from_slice_get xs i x x (sym is)))

none_last : (xs : List Frame) → None ≡ slice_get xs (length xs - 1) → xs ≡ []
none_last [] is = refl
none_last (x ∷ xs) is =
    let some : slice_get (x ∷ xs) (length (x ∷ xs) - 1) ≡ Some (get_or (x ∷ xs) (length (x ∷ xs) - 1) x) = slice_get-get_or (x ∷ xs) (length (x ∷ xs) - 1) x (omega arith) in
    absurd cc

pub none_on : (ds : List Decl) (xs : List Frame) → None ≡ slice_get xs (length xs - 1) → stack ds xs ≡ in_section (declarations_in ds)
none_on ds xs is = ap (stack ds) (none_last xs is) ∙ stack_none ds

-- what is spare above them all
pub spare_top : (s : Size) (xs : List Frame) (x : Frame) → Some x ≡ slice_get xs (length xs - 1) → x.spare ≡ spare_under s xs
spare_top s xs x is =
    let i = length xs - 1 in
    let lt : i < length xs = slice_get_within xs i x (sym is) in
    let all : take (i + 1) xs ≡ xs = take_all (i + 1) xs (omega (arith, lt)) in
    let e : take i xs ++ x ∷ [] ≡ xs = ap (λ y. take i xs ++ y ∷ []) (sym (get_or_from_slice_get xs i x x (sym is))) ∙ sym (take_more xs i x lt) ∙ all in
    sym (spare_last s (take i xs) x) ∙ ap (spare_under s) e

pub spare_none : (s : Size) (xs : List Frame) → None ≡ slice_get xs (length xs - 1) → s ≡ spare_under s xs
unfolding spare_under
spare_none s xs is = ap (spare_under s) (sym (none_last xs is))

take_none : (xs : List Frame) → take 0 xs ≡ []
take_none xs = cc

pub stack_first : (ds : List Decl) (xs : List Frame) (n : ℕ) → n ≡ 0 → stack ds (take n xs) ≡ in_section (declarations_in ds)
stack_first ds xs n is = ap (λ i. stack ds (take i xs)) is ∙ ap (stack ds) (take_none xs) ∙ stack_none ds

pub budgets_at : (ds : List Decl) (xs : List Frame) (rs : List FrameBudgets) (i n : ℕ) (r : FrameBudgets) → r ≡ get_or rs i r → i < length rs → i < length xs → n ≡ i + 1 → Ample ds xs rs → AreBudgets true (stack ds (take n xs)) r.budgets.items
budgets_at ds xs rs i n r at lt within is h = grind (arith, stack, slice_get_read, length)

-- and those of the last of them all
pub budgets_last : (ds : List Decl) (xs : List Frame) (rs : List FrameBudgets) (n : ℕ) (r : FrameBudgets) → n ≡ length xs → r ≡ get_or rs (n - 1) r → 0 < n → length xs ≤ length rs → Ample ds xs rs → AreBudgets true (stack ds xs) r.budgets.items
budgets_last ds xs rs n r is at some lt h = grind (arith, stack, take-length, (budgets_at ds xs rs (n - 1) n r at (omega arith) (omega arith) (omega arith) h))

pub stack_of_none : (ds : List Decl) (xs : List Frame) (n : ℕ) → n ≡ length xs → n ≡ 0 → stack ds xs ≡ in_section (declarations_in ds)
stack_of_none ds [] n is zeroed = stack_none ds
stack_of_none ds (x ∷ xs) n is zeroed = absurd (omega (arith, is, zeroed))
