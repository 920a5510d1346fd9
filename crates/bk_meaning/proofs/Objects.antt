-- Objects of memory: their sizes and lives, when one is made, changed or dies.
use Rattle.bk_meaning.proofs.Terms.{◌≡◌, ℕ, zero, suc, ◌<◌, ◌≤◌, Bool, true, false, cond, List, [], ◌∷◌, ◌++◌, length, Option, Some, None, refl, sym, ap, subst, ◌∙◌, append_assoc, arith, IsTrue, ◌%◌, is_some, option_and_then, slice_get, slice_set, append-nil, map-append, length-append, length-map, length-set, Value, number, address, procedure, routine, unset, Cell, holds, with_byte, Memory, living, dead, cells_of, cells_at, cell_at, replaced, with_cell, write, write_byte, cell_of_byte, lives, made, dead_from, Program, Lasting, global_vector, words, code, objects_from, first_memory, size_of, sizes, Keeps}
use Rattle.bk_base.specs.Word.{byte_place}

pub kept_still : (s : List (Option ℕ)) → Keeps s s
kept_still s = record { made = []; objects = sym (append-nil s) }

pub kept_on : (a b c : List (Option ℕ)) → Keeps a b → Keeps b c → Keeps a c
kept_on a b c g h = record { made = g.made ++ h.made; objects = h.objects ∙ ap (λ x. x ++ h.made) g.objects ∙ append_assoc a g.made h.made }

pub sizes-made : (cells : List Cell) (m : Memory) → Keeps (sizes m) (sizes (made cells m))
sizes-made cells m = record { made = Some (length cells) ∷ []; objects = map-append size_of m (living cells ∷ []) }

abbrev first : List (Option ℕ) → Option ℕ
first [] = None
first (x ∷ xs) = x

abbrev rest : List (Option ℕ) → List (Option ℕ)
rest [] = []
rest (x ∷ xs) = xs

-- What dies was made since: all that was there before stays.
pub closed_keep : (before now : Memory) → Keeps (sizes before) (sizes now) → Keeps (sizes before) (sizes (dead_from (length before) now))
closed_keep [] now k = record { made = sizes (dead_from zero now); objects = refl }
closed_keep (x ∷ before) [] k = let e : length (sizes []) ≡ length (sizes (x ∷ before) ++ k.made) = ap length k.objects in absurd (omega (arith, e))
closed_keep (x ∷ before) (y ∷ now) k =
    let tail : Keeps (sizes before) (sizes now) = record { made = k.made; objects = ap rest k.objects } in
    let r : Keeps (sizes before) (sizes (dead_from (length before) now)) = closed_keep before now tail in
    record {
      made = r.made;
      objects = ap (λ h. h ∷ sizes (dead_from (length before) now)) (ap first k.objects) ∙ ap (λ t. size_of x ∷ t) r.objects;
    }

-- what a change of cells keeps, if it is allowed
abbrev pub KeepsSizes : Memory → Option Memory → Type 0
KeepsSizes m None = Unit {0}
KeepsSizes m (Some changed) = sizes changed ≡ sizes m

abbrev cells_or : List Cell → Option (List Cell) → List Cell
cells_or d None = d
cells_or d (Some cells) = cells

sizes-set : (m : Memory) (o : ℕ) (cells others : List Cell) → cells_of (slice_get m o) ≡ Some cells → length others ≡ length cells → sizes (slice_set m o (living others)) ≡ sizes m
sizes-set [] o cells others is same = refl
sizes-set (living own ∷ m) zero cells others is same = ap (λ n. Some n ∷ sizes m) (same ∙ sym (ap (λ c. length (cells_or [] c)) is))
sizes-set (dead ∷ m) zero cells others is same = absurd (grind (arith, is))
sizes-set (x ∷ m) (suc o) cells others is same = ap (λ s. size_of x ∷ s) (sizes-set m o cells others is same)

if_allowed : (m changed : Memory) (b : Bool) → sizes changed ≡ sizes m → KeepsSizes m (cond b (Some changed) None)
if_allowed m changed true same = same
if_allowed m changed false same = tt

replaced_keeps : (m : Memory) (o i : ℕ) (c : Cell) (there : Option (List Cell)) → cells_at m o ≡ there → KeepsSizes m (replaced m o i c there)
replaced_keeps m o i c None is = tt
replaced_keeps m o i c (Some cells) is = if_allowed m _ (is_some (slice_get cells i)) (sizes-set m o cells (slice_set cells i c) is (length-set cells i c))

with_cell_keeps : (m : Memory) (a : Value) (c : Cell) → KeepsSizes m (with_cell m a c)
with_cell_keeps m (address o i) c = replaced_keeps m o i c (cells_at m o) refl
with_cell_keeps m _ c = tt

then_keeps : (m : Memory) (go : Cell → Option Memory) (c : Option Cell) → ((c : Cell) → KeepsSizes m (go c)) → KeepsSizes m (option_and_then go c)
then_keeps m go None h = tt
then_keeps m go (Some c) h = h c

pub write_keeps : (m : Memory) (a v : Value) → KeepsSizes m (write m a v)
write_keeps m a v = with_cell_keeps m a (holds v)

pub write_byte_keeps : (m : Memory) (a i x : Value) → KeepsSizes m (write_byte m a i x)
write_byte_keeps m a (number i) (number x) =
    then_keeps m _ (cell_at m (cell_of_byte a i)) (λ c. then_keeps m _ (with_byte c (byte_place i) (x % 256)) (λ d. with_cell_keeps m (cell_of_byte a i) d))
write_byte_keeps m a _ _ = tt

pub kept_length : (before now : Memory) → Keeps (sizes before) (sizes now) → length before ≤ length now
kept_length before now k =
    let e : length (sizes now) ≡ length (sizes before ++ k.made) = ap length k.objects in
    omega (arith, e, length-append (sizes before) k.made, length-map before size_of, length-map now size_of)

-- a living object
abbrev lives_in : Option (Option ℕ) → Bool
lives_in (Some (Some n)) = true
lives_in _ = false

lives_by_size : (m : Memory) (o : ℕ) → lives m o ≡ lives_in (slice_get (sizes m) o)
lives_by_size [] o = refl
lives_by_size (living cells ∷ m) zero = refl
lives_by_size (dead ∷ m) zero = refl
lives_by_size (x ∷ m) (suc o) = lives_by_size m o

lives_before : (old more : List (Option ℕ)) (o : ℕ) → IsTrue (lives_in (slice_get old o)) → IsTrue (lives_in (slice_get (old ++ more) o))
lives_before [] more o so = absurd (grind (arith, so))
lives_before (x ∷ old) more zero so = so
lives_before (x ∷ old) more (suc o) so = lives_before old more o so

pub kept_lives : (before now : Memory) (o : ℕ) → Keeps (sizes before) (sizes now) → IsTrue (lives before o) → IsTrue (lives now o)
kept_lives before now o k so =
    let there : IsTrue (lives_in (slice_get (sizes before) o)) = subst IsTrue (lives_by_size before o) so in
    subst IsTrue (sym (lives_by_size now o)) (subst (λ s. IsTrue (lives_in (slice_get s o))) (sym k.objects) (lives_before (sizes before) k.made o there))

-- All that lasts lives when the run begins.
objects_live : (p : Program) (n : ℕ) (xs : List Lasting) (o : ℕ) → o < length xs → IsTrue (lives (objects_from p n xs) o)
objects_live p n [] o lt = absurd (omega (arith, lt))
objects_live p n (words ws ∷ xs) zero lt = refl
objects_live p n (_ ∷ xs) zero lt = refl
objects_live p n (x ∷ xs) (suc o) lt = objects_live p (suc n) xs o (omega (arith, lt))

pub first_lives : (p : Program) (o : ℕ) → o < length p → IsTrue (lives (first_memory p) o)
first_lives p o lt = objects_live p 0 p o lt
