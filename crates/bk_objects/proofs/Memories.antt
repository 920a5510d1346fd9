-- The objects that live, and the memory of them.
use Rattle.bk_objects.proofs.Terms.{◌≡◌, ◌≢◌, ℕ, zero, suc, ◌+◌, ◌-◌, ◌<◌, ◌≤◌, ◌==◌, cond, inl, inr, Some, None, Result, Ok, Err, IfSome, IfNone, OnErr, List, [], ◌∷◌, ◌++◌, length, map, set, get_or, take, drop, replicate, refl, ap, ap₂, sym, ◌∙◌, subst, arith, map-set, length-map, length-set, length-drop, length-take, get_or_past, get_or-set_same, get_or-set_other, set_past, drop-append-le, take-append-le, drop-take, take-take, drop-set-lt, drop-set-add, drop_at, take_all, length-take-le, slice_get_past, slice_get-get_or, All, AllWithin, HoldsAt, address, Object, living, dead, Memory, cells_of, cells_at, made, dead_from, with_cell, Life, cell_in, object_in, found, memory_of, Laid, cells_living, range_with_len}
use Rattle.std.proofs.lemmas.List.FromFn.{length-map-range_with_len, get_or-map-range_with_len, map-range_with_len_more, fill_by_all}
use Rattle.std.proofs.lemmas.Bool.{cases_lt, cases_eq}
use Rattle.std.proofs.lemmas.Bool.Decides.{nat_tests}
use Rattle.std.specs.List.Sorted.{IsNonDecreasingBy, IsBinarySearchResult, IsSearchInRange}
use Rattle.std.specs.Ordering.{nat_cmp, ordering_index}
use Rattle.std.specs.declared.cmp.Ordering.TheVariants.{Less, Equal, Greater}
use Rattle.std.specs.Result.{result_ok}
use Rattle.bk_meaning.specs.Values as v
use Rattle.bk_objects.specs.declared.worth.Cell.{Cell}

-- Numbers that grow, and cells one after another.
pub Laid-order : (n s : ℕ) (ls : List Life) (m e : ℕ) → Laid n s ls m e → n ≤ m
Laid-order n s [] m e h = h.0
Laid-order n s (l ∷ ls) m e h = omega (arith, h.0, Laid-order (l.number + 1) (l.start + l.len) ls m e h.2)

pub Laid-end : (n s : ℕ) (ls : List Life) (m e : ℕ) → Laid n s ls m e → s ≤ e
Laid-end n s [] m e h = omega (arith, h.1)
Laid-end n s (l ∷ ls) m e h = omega (arith, h.1, Laid-end (l.number + 1) (l.start + l.len) ls m e h.2)

pub Laid-push : (n s : ℕ) (ls : List Life) (m e : ℕ) (l : Life) (k f : ℕ) → Laid n s ls m e → m ≤ l.number → l.number < k → l.start ≡ e → l.start + l.len ≡ f → Laid n s (ls ++ l ∷ []) k f
Laid-push n s [] m e l k f h le lt from to = (omega (arith, h.0), from ∙ sym h.1, (omega arith, to))
Laid-push n s (j ∷ ls) m e l k f h le lt from to = (h.0, h.1, Laid-push (j.number + 1) (j.start + j.len) ls m e l k f h.2 le lt from to)

-- those before a place, whose numbers are below a bound
pub Laid-take : (n s : ℕ) (ls : List Life) (m e k from f : ℕ) → Laid n s ls m e → k < length ls → n ≤ from → HoldsAt (λ (l : Life). l.start ≡ f) ls k → ((i : ℕ) (d : Life) → i < k → i < length ls → (get_or ls i d).number < from) → Laid n s (take k ls) from f
Laid-take n s [] m e k from f h lt le start below = absurd (omega (arith, lt))
Laid-take n s (l ∷ ls) m e zero from f h lt le start below = (le, sym h.1 ∙ start l)
Laid-take n s (l ∷ ls) m e (suc k) from f h lt le start below =
    (h.0, h.1, Laid-take (l.number + 1) (l.start + l.len) ls m e k from f h.2 (omega (arith, lt)) (omega (arith, below 0 l (omega arith) (omega arith))) start (λ i d at within. below (suc i) d (omega (arith, at)) (omega (arith, within))))

numbers_from : (n s : ℕ) (ls : List Life) (m e i : ℕ) (d : Life) → Laid n s ls m e → i < length ls → n ≤ (get_or ls i d).number
numbers_from n s [] m e i d h lt = absurd (omega (arith, lt))
numbers_from n s (l ∷ ls) m e zero d h lt = h.0
numbers_from n s (l ∷ ls) m e (suc i) d h lt = omega (arith, h.0, numbers_from (l.number + 1) (l.start + l.len) ls m e i d h.2 (omega (arith, lt)))

pub numbers_below : (n s : ℕ) (ls : List Life) (m e i : ℕ) (d : Life) → Laid n s ls m e → i < length ls → (get_or ls i d).number < m
numbers_below n s [] m e i d h lt = absurd (omega (arith, lt))
numbers_below n s (l ∷ ls) m e zero d h lt = omega (arith, Laid-order (l.number + 1) (l.start + l.len) ls m e h.2)
numbers_below n s (l ∷ ls) m e (suc i) d h lt = numbers_below (l.number + 1) (l.start + l.len) ls m e i d h.2 (omega (arith, lt))

pub numbers_grow : (n s : ℕ) (ls : List Life) (m e : ℕ) → Laid n s ls m e → IsNonDecreasingBy (λ (l : Life). l.number) ls
numbers_grow n s [] m e h i j d le lt = absurd (omega (arith, lt))
numbers_grow n s (l ∷ ls) m e h zero zero d le lt = omega arith
numbers_grow n s (l ∷ ls) m e h zero (suc j) d le lt = omega (arith, numbers_from (l.number + 1) (l.start + l.len) ls m e j d h.2 (omega (arith, lt)))
numbers_grow n s (l ∷ ls) m e h (suc i) zero d le lt = absurd (omega (arith, le))
numbers_grow n s (l ∷ ls) m e h (suc i) (suc j) d le lt = numbers_grow (l.number + 1) (l.start + l.len) ls m e h.2 i j d (omega (arith, le)) (omega (arith, lt))

starts_from : (n s : ℕ) (ls : List Life) (m e i : ℕ) (d : Life) → Laid n s ls m e → i < length ls → s ≤ (get_or ls i d).start
starts_from n s [] m e i d h lt = absurd (omega (arith, lt))
starts_from n s (l ∷ ls) m e zero d h lt = omega (arith, h.1)
starts_from n s (l ∷ ls) m e (suc i) d h lt = omega (arith, h.1, starts_from (l.number + 1) (l.start + l.len) ls m e i d h.2 (omega (arith, lt)))

pub cells_end : (n s : ℕ) (ls : List Life) (m e i : ℕ) (d : Life) → Laid n s ls m e → i < length ls → (get_or ls i d).start + (get_or ls i d).len ≤ e
cells_end n s [] m e i d h lt = absurd (omega (arith, lt))
cells_end n s (l ∷ ls) m e zero d h lt = Laid-end (l.number + 1) (l.start + l.len) ls m e h.2
cells_end n s (l ∷ ls) m e (suc i) d h lt = cells_end (l.number + 1) (l.start + l.len) ls m e i d h.2 (omega (arith, lt))

-- Some cells of all.
part-append : (cells new : List Cell) (start len : ℕ) → start + len ≤ length cells → take len (drop start (cells ++ new)) ≡ take len (drop start cells)
part-append cells new start len le =
    let within : start ≤ length cells = omega arith in
    let some : len ≤ length (drop start cells) = rw length-drop (omega arith) in
    rw (drop-append-le start cells new within, take-append-le len (drop start cells) new some) refl

-- new cells that go again
pub cells_back : (cells new : List Cell) (k : ℕ) → k ≡ length cells → take k (cells ++ new) ≡ cells
cells_back cells new k is = take-append-le k cells new (omega (arith, is)) ∙ take_all k cells (omega (arith, is))

part-take : (cells : List Cell) (k start len : ℕ) → start + len ≤ k → take len (drop start (take k cells)) ≡ take len (drop start cells)
part-take cells k start len le =
    let whole : k ≡ start + (k - start) = omega arith in
    let some : len ≤ k - start = omega arith in
    ap (λ n. take len (drop start (take n cells))) whole ∙ rw (drop-take start (k - start) cells, take-take len (k - start) (drop start cells) some) refl

take-set : (n : ℕ) (cells : List Cell) (i : ℕ) (c : Cell) → take n (set cells i c) ≡ set (take n cells) i c
take-set (suc n) (x ∷ cells) (suc i) c = ap (λ xs. x ∷ xs) (take-set n cells i c)
take-set y z u c = refl

part-set_at : (cells : List Cell) (start len i : ℕ) (c : Cell) → take len (drop start (set cells (start + i) c)) ≡ set (take len (drop start cells)) i c
part-set_at cells start len i c = ap (take len) (drop-set-add start cells i c) ∙ take-set len (drop start cells) i c

part-set_before : (cells : List Cell) (start len i : ℕ) (c : Cell) → i < start → take len (drop start (set cells i c)) ≡ take len (drop start cells)
part-set_before cells start len i c lt = ap (take len) (drop-set-lt start cells i c lt)

part-set_following : (cells : List Cell) (start len i : ℕ) (c : Cell) → start + len ≤ i → take len (drop start (set cells i c)) ≡ take len (drop start cells)
part-set_following cells start len i c le =
    let whole : i ≡ start + (i - start) = omega arith in
    let past : length (take len (drop start cells)) ≤ i - start = rw length-take (omega arith) in
    ap (λ k. take len (drop start (set cells k c))) whole ∙ part-set_at cells start len (i - start) c ∙ set_past (take len (drop start cells)) (i - start) c past

-- The object of a number.
found_here : (cells : List Cell) (l : Life) (ls : List Life) (o : ℕ) → l.number ≡ o → found cells (l ∷ ls) o ≡ object_in cells l
found_here cells l ls o e = grind (arith, nat_tests)

found_behind : (cells : List Cell) (l : Life) (ls : List Life) (o : ℕ) → l.number ≢ o → found cells (l ∷ ls) o ≡ found cells ls o
found_behind cells l ls o ne = grind (arith, nat_tests)

pub found-none : (cells : List Cell) (ls : List Life) (o : ℕ) → All (λ (l : Life). l.number ≢ o) ls → found cells ls o ≡ dead
found-none cells [] o none = refl
found-none cells (l ∷ ls) o none = found_behind cells l ls o (none 0 l (omega arith)) ∙ found-none cells ls o (λ k d lt. none (suc k) d (omega (arith, lt)))

pub found-past : (cells : List Cell) (n s : ℕ) (ls : List Life) (m e o : ℕ) → Laid n s ls m e → m ≤ o → found cells ls o ≡ dead
found-past cells n s ls m e o h le = found-none cells ls o (λ k d lt is. absurd (omega (arith, numbers_below n s ls m e k d h lt, is, le)))

pub found-at : (cells : List Cell) (n s : ℕ) (ls : List Life) (m e i : ℕ) (d : Life) → Laid n s ls m e → i < length ls → found cells ls (get_or ls i d).number ≡ object_in cells (get_or ls i d)
found-at cells n s [] m e i d h lt = absurd (omega (arith, lt))
found-at cells n s (l ∷ ls) m e zero d h lt = found_here cells l ls l.number refl
found-at cells n s (l ∷ ls) m e (suc i) d h lt =
    let within : i < length ls = omega (arith, lt) in
    let above : l.number + 1 ≤ (get_or ls i d).number = numbers_from (l.number + 1) (l.start + l.len) ls m e i d h.2 within in
    found_behind cells l ls (get_or ls i d).number (omega arith) ∙ found-at cells (l.number + 1) (l.start + l.len) ls m e i d h.2 within

-- the object at a place
pub found-place : (cells : List Cell) (ls : List Life) (m e i o : ℕ) (d : Life) → Laid 0 0 ls m e → i < length ls → (get_or ls i d).number ≡ o → found cells ls o ≡ object_in cells (get_or ls i d)
found-place cells ls m e i o d h lt at = subst (λ k. found cells ls k ≡ object_in cells (get_or ls i d)) at (found-at cells 0 0 ls m e i d h lt)

found-push_other : (cells : List Cell) (ls : List Life) (l : Life) (o : ℕ) → l.number ≢ o → found cells (ls ++ l ∷ []) o ≡ found cells ls o
found-push_other cells [] l o ne = found_behind cells l [] o ne
found-push_other cells (k ∷ ls) l o ne = ap (λ x. cond (k.number == o) (object_in cells k) x) (found-push_other cells ls l o ne)

found-push_same : (cells : List Cell) (n s : ℕ) (ls : List Life) (m e : ℕ) (l : Life) → Laid n s ls m e → m ≤ l.number → found cells (ls ++ l ∷ []) l.number ≡ object_in cells l
found-push_same cells n s [] m e l h le = found_here cells l [] l.number refl
found-push_same cells n s (k ∷ ls) m e l h le =
    let below : k.number + 1 ≤ m = Laid-order (k.number + 1) (k.start + k.len) ls m e h.2 in
    found_behind cells k (ls ++ l ∷ []) l.number (omega arith) ∙ found-push_same cells (k.number + 1) (k.start + k.len) ls m e l h.2 le

found-take : (cells : List Cell) (ls : List Life) (k from o : ℕ) → AllWithin (λ (l : Life). from ≤ l.number) ls k (length ls) → o < from → found cells (take k ls) o ≡ found cells ls o
found-take cells ls zero from o above lt = sym (found-none cells ls o (λ k d within e. absurd (omega (arith, above k d (omega arith) within, e, lt))))
found-take cells [] (suc k) from o above lt = refl
found-take cells (l ∷ ls) (suc k) from o above lt =
    ap (λ x. cond (l.number == o) (object_in cells l) x) (found-take cells ls k from o (λ i d le within. above (suc i) d (omega (arith, le)) (omega (arith, within))) lt)

-- other cells, in which each object has the same
found-cells : (cells new : List Cell) (n s : ℕ) (ls : List Life) (m e o : ℕ) → Laid n s ls m e → ((l : Life) → s ≤ l.start → l.start + l.len ≤ e → object_in new l ≡ object_in cells l) → found new ls o ≡ found cells ls o
found-cells cells new n s [] m e o h same = refl
found-cells cells new n s (l ∷ ls) m e o h same =
    let to : l.start + l.len ≤ e = Laid-end (l.number + 1) (l.start + l.len) ls m e h.2 in
    ap₂ (λ x y. cond (l.number == o) x y) (same l (omega (arith, h.1)) to)
    (found-cells cells new (l.number + 1) (l.start + l.len) ls m e o h.2 (λ k from till. same k (omega (arith, h.1, from)) till))

-- a cell of one object is replaced
found-set_other : (cells : List Cell) (n s : ℕ) (ls : List Life) (m e p : ℕ) (d : Life) (i : ℕ) (c : Cell) (o : ℕ) → Laid n s ls m e → p < length ls → i < (get_or ls p d).len → (get_or ls p d).number ≢ o → found (set cells ((get_or ls p d).start + i) c) ls o ≡ found cells ls o
found-set_other cells n s [] m e p d i c o h lt within ne = refl
found-set_other cells n s (l ∷ ls) m e zero d i c o h lt within ne =
    found_behind (set cells (l.start + i) c) l ls o ne
    ∙ found-cells cells (set cells (l.start + i) c) (l.number + 1) (l.start + l.len) ls m e o h.2 (λ k from till. ap (λ xs. living (map cell_in xs)) (part-set_before cells k.start k.len (l.start + i) c (omega (arith, from, within))))
    ∙ sym (found_behind cells l ls o ne)
found-set_other cells n s (l ∷ ls) m e (suc p) d i c o h lt within ne =
    let at : p < length ls = omega (arith, lt) in
    let from : l.start + l.len ≤ (get_or ls p d).start = starts_from (l.number + 1) (l.start + l.len) ls m e p d h.2 at in
    ap₂ (λ x y. cond (l.number == o) x y) (ap (λ xs. living (map cell_in xs)) (part-set_following cells l.start l.len ((get_or ls p d).start + i) c (omega arith)))
    (found-set_other cells (l.number + 1) (l.start + l.len) ls m e p d i c o h.2 at within ne)

-- What a binary search among the objects finds.
search_ok : (a o : ℕ) → nat_cmp a o ≡ Equal → a ≡ o
search_ok a o e = grind (arith, nat_tests)

search_less : (a o : ℕ) → nat_cmp a o ≡ Less → a ≢ o
search_less a o e = grind (arith, nat_tests)

search_greater : (a o : ℕ) → nat_cmp a o ≡ Greater → a ≢ o
search_greater a o e = grind (arith, nat_tests)

search_grows : (a b o : ℕ) → a ≤ b → ordering_index (nat_cmp a o) ≤ ordering_index (nat_cmp b o)
search_grows a b o le = grind (arith, nat_tests)

pub searched_place : (ls : List Life) (o : ℕ) (r : Result ℕ ℕ) → IsSearchInRange r (length ls) → IsBinarySearchResult (λ (l : Life). nat_cmp l.number o) ls r → IfSome (result_ok r) (λ i. (i < length ls) × HoldsAt (λ (l : Life). l.number ≡ o) ls i)
searched_place ls o (Ok i) within by = (within, λ d. search_ok _ o (by d))
searched_place ls o (Err i) within by = tt

pub searched_none : (ls : List Life) (m e o : ℕ) (r : Result ℕ ℕ) → Laid 0 0 ls m e → IsBinarySearchResult (λ (l : Life). nat_cmp l.number o) ls r → IfNone (result_ok r) (All (λ (l : Life). l.number ≢ o) ls)
searched_none ls m e o (Ok i) h by = tt
searched_none ls m e o (Err i) h by =
    let parted = by (λ j k d le lt. search_grows _ _ o (numbers_grow 0 0 ls m e h j k d le lt)) in
    λ k d lt. elim (cases_lt k i) [
      | inl below ↦ search_less _ o (parted.0 k d (omega arith) below)
      | inr above ↦ search_greater _ o (parted.1 k d above lt)
    ]

-- The memory of the objects that live.
pub length-memory_of : (cells : List Cell) (ls : List Life) (n : ℕ) → length (memory_of cells ls n) ≡ n
length-memory_of cells ls n = length-map-range_with_len (found cells ls) 0 n

get_or-memory_of : (cells : List Cell) (ls : List Life) (n e o : ℕ) → Laid 0 0 ls n e → get_or (memory_of cells ls n) o dead ≡ found cells ls o
get_or-memory_of cells ls n e o h = elim (cases_lt o n) [
  | inl lt ↦ get_or-map-range_with_len (found cells ls) 0 n o o dead lt (omega arith)
  | inr le ↦ get_or_past (memory_of cells ls n) o dead (omega (arith, length-memory_of cells ls n, le)) ∙ sym (found-past cells 0 0 ls n e o h le)
]

cells_at-get_or : (m : Memory) (o : ℕ) → cells_at m o ≡ cells_of (Some (get_or m o dead))
cells_at-get_or [] o = refl
cells_at-get_or (x ∷ m) zero = refl
cells_at-get_or (x ∷ m) (suc o) = cells_at-get_or m o

pub cells_at-memory_of : (cells : List Cell) (ls : List Life) (n e o : ℕ) → Laid 0 0 ls n e → cells_at (memory_of cells ls n) o ≡ cells_of (Some (found cells ls o))
cells_at-memory_of cells ls n e o h = cells_at-get_or (memory_of cells ls n) o ∙ ap (λ x. cells_of (Some x)) (get_or-memory_of cells ls n e o h)

-- the same of the fields of a store, and what they were read as
pub cells_at-view : (m : Memory) (cells xs : List Cell) (ls ys : List Life) (n o : ℕ) → Laid 0 0 ls n (length cells) → memory_of cells ls n ≡ m → xs ≡ cells → ys ≡ ls → cells_at m o ≡ cells_of (Some (found xs ys o))
cells_at-view m cells xs ls ys n o h view x y =
    ap (λ k. cells_at k o) (sym view) ∙ cells_at-memory_of cells ls n (length cells) o h ∙ ap₂ (λ a b. cells_of (Some (found a b o))) (sym x) (sym y)

-- memory is what the objects below its length are
memory_of_each : (cells : List Cell) (ls : List Life) (m : Memory) (n : ℕ) → length m ≡ n → ((o : ℕ) → o < n → get_or m o dead ≡ found cells ls o) → m ≡ memory_of cells ls n
memory_of_each cells ls m n e each = fill_by_all (found cells ls) m n dead e each

-- more cells, of no object
pub memory_of-more : (cells new : List Cell) (ls : List Life) (n : ℕ) → Laid 0 0 ls n (length cells) → memory_of (cells ++ new) ls n ≡ memory_of cells ls n
memory_of-more cells new ls n h =
    memory_of_each cells ls (memory_of (cells ++ new) ls n) n (length-memory_of (cells ++ new) ls n)
    (λ o lt. get_or-memory_of (cells ++ new) ls n (length cells) o h
    ∙ found-cells cells (cells ++ new) 0 0 ls n (length cells) o h (λ l from to. ap (λ xs. living (map cell_in xs)) (part-append cells new l.start l.len to)))

-- an object is made
pub memory_of-push : (cells : List Cell) (ls : List Life) (l : Life) (e : ℕ) → Laid 0 0 ls l.number e → memory_of cells (ls ++ l ∷ []) (l.number + 1) ≡ memory_of cells ls l.number ++ object_in cells l ∷ []
memory_of-push cells ls l e h =
    let before : memory_of cells ls l.number ≡ memory_of cells (ls ++ l ∷ []) l.number =
    memory_of_each cells (ls ++ l ∷ []) (memory_of cells ls l.number) l.number (length-memory_of cells ls l.number)
    (λ o lt. get_or-memory_of cells ls l.number e o h ∙ sym (found-push_other cells ls l o (omega (arith, lt)))) in
    map-range_with_len_more (found cells (ls ++ l ∷ [])) 0 l.number l.number (omega arith)
    ∙ ap (λ x. memory_of cells (ls ++ l ∷ []) l.number ++ x ∷ []) (found-push_same cells 0 0 ls l.number e l h (omega arith))
    ∙ ap (λ m. m ++ object_in cells l ∷ []) (sym before)

part-new : (cells new : List Cell) → take (length new) (drop (length cells) (cells ++ new)) ≡ new
part-new cells new = rw (drop_at cells new (length cells) refl) (take_all (length new) new (omega arith))

pub memory_of-made : (cells new : List Cell) (ls : List Life) (n : ℕ) (l : Life) → Laid 0 0 ls n (length cells) → l.number ≡ n → l.start ≡ length cells → l.len ≡ length new → memory_of (cells ++ new) (ls ++ l ∷ []) (n + 1) ≡ made (map cell_in new) (memory_of cells ls n)
memory_of-made cells new ls n l h at from len =
    let before : Laid 0 0 ls l.number (length cells) = subst (λ k. Laid 0 0 ls k (length cells)) (sym at) h in
    let object : object_in (cells ++ new) l ≡ living (map cell_in new) = ap (λ xs. living (map cell_in xs)) (rw (from, len) (part-new cells new)) in
    subst (λ k. memory_of (cells ++ new) (ls ++ l ∷ []) (k + 1) ≡ made (map cell_in new) (memory_of cells ls k)) at
    (memory_of-push (cells ++ new) ls l (length cells) before ∙ ap₂ (λ m x. m ++ x ∷ []) (memory_of-more cells new ls l.number before) object)

-- objects die
length-dead_from : (from : ℕ) (m : Memory) → length (dead_from from m) ≡ length m
length-dead_from from [] = refl
length-dead_from zero (x ∷ m) = ap suc (length-dead_from zero m)
length-dead_from (suc from) (x ∷ m) = ap suc (length-dead_from from m)

dead_from-below : (from : ℕ) (m : Memory) (o : ℕ) → o < from → get_or (dead_from from m) o dead ≡ get_or m o dead
dead_from-below from [] o lt = refl
dead_from-below zero (x ∷ m) o lt = absurd (omega arith)
dead_from-below (suc from) (x ∷ m) zero lt = refl
dead_from-below (suc from) (x ∷ m) (suc o) lt = dead_from-below from m o (omega arith)

dead_from-above : (from : ℕ) (m : Memory) (o : ℕ) → from ≤ o → get_or (dead_from from m) o dead ≡ dead
dead_from-above from [] o le = refl
dead_from-above zero (x ∷ m) zero le = refl
dead_from-above zero (x ∷ m) (suc o) le = dead_from-above zero m o (omega arith)
dead_from-above (suc from) (x ∷ m) zero le = absurd (omega arith)
dead_from-above (suc from) (x ∷ m) (suc o) le = dead_from-above from m o (omega arith)

-- Those from a place on die, and their cells, from place f on, go.
f_within : (ls : List Life) (e n k f : ℕ) → Laid 0 0 ls n e → k < length ls → HoldsAt (λ (l : Life). l.start ≡ f) ls k → f ≤ e
f_within [] e n k f h lt start = absurd (omega (arith, lt))
f_within (l ∷ ls) e n k f h lt start = omega (arith, cells_end 0 0 (l ∷ ls) n e k l h lt, start l)

pub Laid-left : (ls : List Life) (cells : List Cell) (n k f : ℕ) → Laid 0 0 ls n (length cells) → k < length ls → HoldsAt (λ (l : Life). l.start ≡ f) ls k → Laid 0 0 (take k ls) n (length (take f cells))
Laid-left ls cells n k f h lt start =
    let within : f ≤ length cells = f_within ls (length cells) n k f h lt start in
    rw (length-take-le f cells within) (Laid-take 0 0 ls n (length cells) k n f h lt (omega arith) start (λ i d at some. numbers_below 0 0 ls n (length cells) i d h some))

all_below : (ls : List Life) (n e k from : ℕ) → Laid 0 0 ls n e → k ≤ length ls → (0 < k → HoldsAt (λ (l : Life). l.number < from) ls (k - 1)) → (i : ℕ) (d : Life) → i < k → i < length ls → (get_or ls i d).number < from
all_below ls n e k from h le below i d lt within = omega (arith, numbers_grow 0 0 ls n e h i (k - 1) d (omega arith) (omega arith), below (omega arith) d)

pub memory_of-left : (cells : List Cell) (ls : List Life) (n k from f : ℕ) → Laid 0 0 ls n (length cells) → k < length ls → HoldsAt (λ (l : Life). l.start ≡ f) ls k → AllWithin (λ (l : Life). from ≤ l.number) ls k (length ls) → (0 < k → HoldsAt (λ (l : Life). l.number < from) ls (k - 1)) → memory_of (take f cells) (take k ls) n ≡ dead_from from (memory_of cells ls n)
memory_of-left cells ls n k from f h lt start above below =
    let laid = Laid-take 0 0 ls n (length cells) k from f h lt (omega arith) start (all_below ls n (length cells) k from h (omega arith) below) in
    sym (memory_of_each (take f cells) (take k ls) (dead_from from (memory_of cells ls n)) n (length-dead_from from (memory_of cells ls n) ∙ length-memory_of cells ls n)
    (λ o within. elim (cases_lt o from) [
      | inl lives ↦ dead_from-below from (memory_of cells ls n) o lives ∙ get_or-memory_of cells ls n (length cells) o h
          ∙ sym (found-cells cells (take f cells) 0 0 (take k ls) from f o laid (λ l s to. ap (λ xs. living (map cell_in xs)) (part-take cells f l.start l.len to)) ∙ found-take cells ls k from o above lives)
      | inr dies ↦ dead_from-above from (memory_of cells ls n) o dies ∙ sym (found-past (take f cells) 0 0 (take k ls) from f o laid dies)
    ]))

-- none dies
pub memory_of-kept : (cells : List Cell) (ls : List Life) (n from : ℕ) → Laid 0 0 ls n (length cells) → (0 < length ls → HoldsAt (λ (l : Life). l.number < from) ls (length ls - 1)) → memory_of cells ls n ≡ dead_from from (memory_of cells ls n)
memory_of-kept cells ls n from h below = sym
    (memory_of_each cells ls (dead_from from (memory_of cells ls n)) n (length-dead_from from (memory_of cells ls n) ∙ length-memory_of cells ls n)
    (λ o within. elim (cases_lt o from) [
      | inl lives ↦ dead_from-below from (memory_of cells ls n) o lives ∙ get_or-memory_of cells ls n (length cells) o h
      | inr dies ↦ dead_from-above from (memory_of cells ls n) o dies
          ∙ sym (found-none cells ls o (λ k d lt is. absurd (omega (arith, all_below ls n (length cells) (length ls) from h (omega arith) below k d lt lt, is, dies))))
    ]))

-- how many cells live
beyond : (cells : List Cell) (l : Life) (ls : List Life) (a k : ℕ) → l.number < a → map (found cells (l ∷ ls)) (range_with_len a k) ≡ map (found cells ls) (range_with_len a k)
beyond cells l ls a zero lt = refl
beyond cells l ls a (suc k) lt = ap₂ (λ (x : Object) (xs : Memory). x ∷ xs) (found_behind cells l ls a (λ is. absurd (omega (arith, is, lt)))) (beyond cells l ls (a + 1) k (omega (arith, lt)))

living_in : (cells : List Cell) (n s : ℕ) (ls : List Life) (k m e : ℕ) → n + k ≡ m → Laid n s ls m e → e ≤ length cells → s + cells_living (map (found cells ls) (range_with_len n k)) ≡ e
living_in cells n s [] zero m e at h le = omega (arith, h.1)
living_in cells n s (l ∷ ls) zero m e at h le = absurd (omega (arith, at, h.0, Laid-order (l.number + 1) (l.start + l.len) ls m e h.2))
living_in cells n s [] (suc k) m e at h le = living_in cells (n + 1) s [] k m e (omega (arith, at)) (omega (arith, at), h.1) le
living_in cells n s (l ∷ ls) (suc k) m e at h le = elim (cases_eq l.number n) [
  | inl here ↦
      let some : l.len ≤ length (drop l.start cells) = rw length-drop (omega (arith, le, Laid-end (l.number + 1) (l.start + l.len) ls m e h.2)) in
      let size : length (map cell_in (take l.len (drop l.start cells))) ≡ l.len = length-map (take l.len (drop l.start cells)) cell_in ∙ length-take-le l.len (drop l.start cells) some in
      let others = living_in cells (n + 1) (l.start + l.len) ls k m e (omega (arith, at)) (subst (λ o. Laid (o + 1) (l.start + l.len) ls m e) here h.2) le in
      ap₂ (λ (x : Object) (xs : Memory). s + cells_living (x ∷ xs)) (found_here cells l ls n here) (beyond cells l ls (n + 1) k (omega (arith, here)))
      ∙ omega (arith, size, others, h.1)
  | inr other ↦
      let above : Laid (n + 1) s (l ∷ ls) m e = (omega (arith, h.0, other), h.1, h.2) in
      ap (λ (x : Object). s + cells_living (x ∷ map (found cells (l ∷ ls)) (range_with_len (n + 1) k))) (found-none cells (l ∷ ls) n (λ i d lt is. absurd (omega (arith, is, numbers_from (n + 1) s (l ∷ ls) m e i d above lt))))
      ∙ living_in cells (n + 1) s (l ∷ ls) k m e (omega (arith, at)) above le
]

pub cells_living-memory_of : (cells : List Cell) (ls : List Life) (n : ℕ) → Laid 0 0 ls n (length cells) → cells_living (memory_of cells ls n) ≡ length cells
cells_living-memory_of cells ls n h = omega (arith, living_in cells 0 0 ls n n (length cells) (omega arith) h (omega arith))

-- a cell is replaced
pub replaced_none : (cells : List Cell) (ls : List Life) (n e o i : ℕ) (c : v.Cell) → Laid 0 0 ls n e → All (λ (l : Life). l.number ≢ o) ls → None ≡ with_cell (memory_of cells ls n) (address o i) c
replaced_none cells ls n e o i c h none = rw (cells_at-memory_of cells ls n e o h, found-none cells ls o none) refl

-- the object at place p has number o
pub replaced_past : (cells : List Cell) (ls : List Life) (n e o i p : ℕ) (d : Life) (c : v.Cell) → Laid 0 0 ls n e → p < length ls → (get_or ls p d).number ≡ o → (get_or ls p d).len ≤ i → None ≡ with_cell (memory_of cells ls n) (address o i) c
replaced_past cells ls n e o i p d c h lt at le =
    let l = get_or ls p d in
    let past : length (map cell_in (take l.len (drop l.start cells))) ≤ i = rw (length-map, length-take) (omega arith) in
    rw (cells_at-memory_of cells ls n e o h, found-place cells ls n e p o d h lt at, slice_get_past (map cell_in (take l.len (drop l.start cells))) i past) refl

memory_of-set : (cells : List Cell) (ls : List Life) (n o i p : ℕ) (d : Life) (c : Cell) → Laid 0 0 ls n (length cells) → p < length ls → (get_or ls p d).number ≡ o → i < (get_or ls p d).len
    → memory_of (set cells ((get_or ls p d).start + i) c) ls n ≡ set (memory_of cells ls n) o (living (set (map cell_in (take (get_or ls p d).len (drop (get_or ls p d).start cells))) i (cell_in c)))
memory_of-set cells ls n o i p d c h lt at some =
    let l = get_or ls p d in
    let new = set cells (l.start + i) c in
    let m = memory_of cells ls n in
    let x : Object = living (set (map cell_in (take l.len (drop l.start cells))) i (cell_in c)) in
    let within : o < length m = omega (arith, length-memory_of cells ls n, numbers_below 0 0 ls n (length cells) p d h lt, at) in
    let object : object_in new l ≡ x = ap (λ xs. living xs) (ap (map cell_in) (part-set_at cells l.start l.len i c) ∙ map-set cell_in (take l.len (drop l.start cells)) i c) in
    sym (memory_of_each new ls (set m o x) n (length-set m o x ∙ length-memory_of cells ls n)
    (λ k below. elim (cases_eq o k) [
      | inl same ↦ subst (λ j. get_or (set m o x) j dead ≡ found new ls j) same (get_or-set_same m o x dead within ∙ sym (found-place new ls n (length cells) p o d h lt at ∙ object))
      | inr other ↦ get_or-set_other m o k x dead (λ q. other (sym q)) ∙ get_or-memory_of cells ls n (length cells) k h
          ∙ sym (found-set_other cells 0 0 ls n (length cells) p d i c k h lt some (λ q. other (sym at ∙ q)))
    ]))

pub replaced_at : (cells : List Cell) (ls : List Life) (n o i p : ℕ) (d : Life) (c : Cell) → Laid 0 0 ls n (length cells) → p < length ls → (get_or ls p d).number ≡ o → i < (get_or ls p d).len → Some (memory_of (set cells ((get_or ls p d).start + i) c) ls n) ≡ with_cell (memory_of cells ls n) (address o i) (cell_in c)
replaced_at cells ls n o i p d c h lt at some =
    let l = get_or ls p d in
    let end : l.start + l.len ≤ length cells = cells_end 0 0 ls n (length cells) p d h lt in
    let within : i < length (map cell_in (take l.len (drop l.start cells))) = rw (length-map, length-take, length-drop) (omega arith) in
    rw (cells_at-memory_of cells ls n (length cells) o h, found-place cells ls n (length cells) p o d h lt at, slice_get-get_or (map cell_in (take l.len (drop l.start cells))) i (cell_in c) within)
    (ap (λ m. Some m) (memory_of-set cells ls n o i p d c h lt at some))

pub on_err : {T E : Type 0} (r : Result T E) (P : Type 0) → P → OnErr r P
on_err (Ok x) P p = tt
on_err (Err e) P p = p

-- so many copies of a cell after the others
pub cells-resized : (cells : List Cell) (n len count : ℕ) (x : Cell) → len ≡ length cells → n ≡ len + count → take n cells ++ replicate (n - len) x ≡ cells ++ replicate count x
cells-resized cells n len count x is sum =
    let copies : n - len ≡ count = omega arith in
    ap₂ (λ xs k. xs ++ replicate k x) (take_all n cells (omega arith)) copies

pub map-replicate : (n : ℕ) (x : Cell) → map cell_in (replicate n x) ≡ replicate n (cell_in x)
map-replicate zero x = refl
map-replicate (suc n) x = ap (λ xs. cell_in x ∷ xs) (map-replicate n x)
