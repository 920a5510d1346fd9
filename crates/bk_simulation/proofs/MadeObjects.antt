-- Objects that are made, what is done with them, and their death.
use Rattle.bk_simulation.proofs.Words.{◌≡◌, ◌≢◌, ℕ, zero, suc, ◌+◌, ◌<◌, ◌≤◌, List, [], ◌∷◌, ◌++◌, length, Option, Some, None, refl, sym, ap, ◌∙◌, subst, arith, ◌⊎◌, ⊎_elim, inl, inr, slice_get, length-append, option_and_then, slice_set, slice_get_within, holds, places, Object, living, Memory, cells_of, cells_at, made, dead_from, Content, Variable, Cell, Held, content_of, replicate, Cell_of}
use Rattle.bk_ocode.specs.Cells as ocode
pub use Rattle.bk_simulation.proofs.Memory.{Like, like_refl, like_on, BaseOf, size_in, Alive, IsCell, Store, limit, Grown, Moved, get_at, alive_within, one_base, Codes, StandsCell, Fits, based, stands_grown, fits_more, fits_less, cell_alive, Applies}

-- ---- What stands at a place of a list behind which something was put, or in which something was set.

-- what stood first stays,
pub get_first : {A : Type 0} (xs ys : List A) (i : ℕ) (x : A) → slice_get xs i ≡ Some x → slice_get (xs ++ ys) i ≡ Some x
get_first [] ys i x h = absurd (cc)
get_first (y ∷ xs) ys zero x h = h
get_first (y ∷ xs) ys (suc i) x h = get_first xs ys i x h

-- the new one stands behind it,
pub get_replicate : {A : Type 0} (n i : ℕ) (x c : A) → slice_get (replicate n x) i ≡ Some c → (c ≡ x) × (i < n)
get_replicate zero i x c h = absurd (let z : None ≡ Some c = h in cc)
get_replicate (suc n) zero x c h = ((let z : Some x ≡ Some c = h in cc), omega arith)
get_replicate (suc n) (suc i) x c h = let q = get_replicate n i x c h in let lt = q.1 in (q.0, omega arith)

pub get_new : {A : Type 0} (xs : List A) (y : A) → slice_get (xs ++ y ∷ []) (length xs) ≡ Some y
get_new [] y = refl
get_new (x ∷ xs) y = get_new xs y

-- and nothing else does
pub get_last : {A : Type 0} (xs : List A) (y : A) (i : ℕ) (x : A) → slice_get (xs ++ y ∷ []) i ≡ Some x → (slice_get xs i ≡ Some x) ⊎ ((i ≡ length xs) × (x ≡ y))
get_last [] y zero x h = inr (refl, cc)
get_last [] y (suc i) x h = absurd (cc)
get_last (z ∷ xs) y zero x h = inl h
get_last (z ∷ xs) y (suc i) x h = grind (arith, length, (get_last xs y i x h))

-- where one was set, it stands there and the others where they stood
pub get_set : {A : Type 0} (xs : List A) (i j : ℕ) (x y : A) → slice_get (slice_set xs i x) j ≡ Some y → ((j ≡ i) × (y ≡ x)) ⊎ ((j ≢ i) × (slice_get xs j ≡ Some y))
get_set [] i j x y h = absurd (cc)
get_set (z ∷ xs) zero zero x y h = inl (refl, cc)
get_set (z ∷ xs) (suc i) (suc j) x y h = grind (arith, (get_set xs i j x y h))
get_set (z ∷ xs) _ _ x y h = inr (omega arith, h)

-- no living object has this word
abbrev pub IsFree : Store → ℕ → Type 0
IsFree h a = (o n b i : ℕ) → Alive h.mem o n → BaseOf h.bases o b → i < n → b + i ≢ a

-- a living object's cells
pub record Lives (y : Option (List Cell_of)) (n : ℕ) : Type 0 where
  pub cells : List Cell_of
  pub is : y ≡ Some cells
  pub long : length cells ≡ n

pub alive_is : (y : Option (List Cell_of)) (n : ℕ) → size_in y ≡ Some n → Lives y n
alive_is None n h = absurd (cc)
alive_is (Some cells) n h = record { cells = cells; is = refl; long = cc }

pub alive_from : (y : Option (List Cell_of)) (cells : List Cell_of) → y ≡ Some cells → size_in y ≡ Some (length cells)
alive_from y cells e = ap size_in e

-- a cell is in a living object
pub cell_in : (y : Option (List Cell_of)) (i : ℕ) (c : Cell_of) → option_and_then (λ cells. slice_get cells i) y ≡ Some c → (cells : List Cell_of) × (y ≡ Some cells) × (slice_get cells i ≡ Some c)
cell_in None i c h = absurd (cc)
cell_in (Some cells) i c h = (cells, refl, h)

pub object_there : (mem : Memory) (o : ℕ) (cells : List Cell_of) → cells_at mem o ≡ Some cells → slice_get mem o ≡ Some (living cells)
object_there mem o cells h = by_object (slice_get mem o) h
  where
    by_object : (y : Option Object) → cells_of y ≡ Some cells → y ≡ Some (living cells)
    by_object (Some (living c)) h = cc
    by_object _ h = absurd (cc)

pub grown_length : (bases bases1 : List ℕ) → Grown bases bases1 → length bases ≤ length bases1
grown_length bases bases1 g = by_length (length bases) refl
  where
    by_length : (n : ℕ) → length bases ≡ n → n ≤ length bases1
    by_length zero e = omega arith
    by_length (suc n) e =
        let x = get_at bases n (omega arith) in
        slice_get_within bases1 n x.0 (g.each n x.0 x.1)

pub stands_cell_grown : (codes : Codes) (bases bases1 : List ℕ) (c : Cell_of) (x : Content) → Grown bases bases1 → StandsCell codes bases c x → StandsCell codes bases1 c x
stands_cell_grown codes bases bases1 (holds v) x g s = stands_grown codes bases bases1 v x g s
stands_cell_grown codes bases bases1 (places p q r t) x g s = s

-- ---- an object more

abbrev pub make : Store → ℕ → List Cell_of → Store
make h b cells = record { bases = h.bases ++ b ∷ []; mem = made cells h.mem; cells = h.cells }

-- an object of a memory behind which one was made
pub record Older (mem : Memory) (o n : ℕ) : Type 0 where
  pub before : o < length mem
  pub alive : Alive mem o n

-- the cells at a place of it
pub cells_made : (mem : Memory) (vs : List Cell_of) (o : ℕ) (cells : List Cell_of) → cells_at (made vs mem) o ≡ Some cells
    → (cells_at mem o ≡ Some cells) ⊎ ((o ≡ length mem) × (cells ≡ vs))
cells_made mem vs o cells h = grind (arith, get_last, object_there)

pub alive_made : (mem : Memory) (vs : List Cell_of) (o n : ℕ) → Alive (made vs mem) o n → Older mem o n ⊎ ((o ≡ length mem) × (n ≡ length vs))
alive_made mem vs o n a = grind (arith, alive_is, alive_from, alive_within, cells_made)

pub base_made : (bases : List ℕ) (b o b1 : ℕ) → BaseOf (bases ++ b ∷ []) o b1 → BaseOf bases o b1 ⊎ ((o ≡ length bases) × (b1 ≡ b))
base_made bases b o b1 e = get_last bases b o b1 e

pub grown_made : (bases : List ℕ) (b : ℕ) → Grown bases (bases ++ b ∷ [])
grown_made bases b = record { each = λ o b1 e. get_first bases (b ∷ []) o b1 e }

-- where an object of a larger memory is
pub record Lying (h : Store) (b size o n b1 : ℕ) : Type 0 where
  pub lies : ((Alive h.mem o n) × (BaseOf h.bases o b1)) ⊎ ((o ≡ length h.mem) × (n ≡ size) × (b1 ≡ b))

pub lying : (h : Store) (b : ℕ) (vs : List Cell_of) (o n b1 : ℕ) → length h.bases ≡ length h.mem → Alive (make h b vs).mem o n → BaseOf (make h b vs).bases o b1 → Lying h b (length vs) o n b1
lying h b vs o n b1 long a e = record {
  lies =
      ⊎_elim
      (λ (l : Older h.mem o n). ⊎_elim
      (λ (x : BaseOf h.bases o b1). inl (l.alive, x))
      (λ (x : (o ≡ length h.bases) × (b1 ≡ b)). let lt = l.before in let z = x.0 in absurd (omega arith))
      (base_made h.bases b o b1 e))
      (λ (l : (o ≡ length h.mem) × (n ≡ length vs)). ⊎_elim
      (λ (x : BaseOf h.bases o b1). let lt = slice_get_within h.bases o b1 x in let z = l.0 in absurd (omega arith))
      (λ (x : (o ≡ length h.bases) × (b1 ≡ b)). inr (l.0, l.1, x.1))
      (base_made h.bases b o b1 e))
      (alive_made h.mem vs o n a);
}

-- ---- objects that die together

abbrev pub forget : Store → ℕ → Store
forget h o = record h { mem = dead_from o h.mem }

pub dead_length : (o : ℕ) (mem : Memory) → length (dead_from o mem) ≡ length mem
dead_length o [] = refl
dead_length zero (x ∷ mem) = ap (λ n. suc n) (dead_length zero mem)
dead_length (suc o) (x ∷ mem) = ap (λ n. suc n) (dead_length o mem)

-- what lives after the death of those from a number on was before it, and lived
pub lives_before : (o : ℕ) (mem : Memory) (o1 : ℕ) (cells : List Cell_of) → cells_at (dead_from o mem) o1 ≡ Some cells → (o1 < o) × (cells_at mem o1 ≡ Some cells)
lives_before zero (x ∷ mem) (suc o1) cells h = let e = lives_before zero mem o1 cells h in absurd (omega (arith, e.0))
lives_before (suc o) (x ∷ mem) zero cells h = (omega arith, h)
lives_before (suc o) (x ∷ mem) (suc o1) cells h = let e = lives_before o mem o1 cells h in (omega (arith, e.0), e.1)
lives_before _ _ _ cells h = absurd (cc)

pub alive_before : (o : ℕ) (mem : Memory) (o1 n : ℕ) → Alive (dead_from o mem) o1 n → (o1 < o) × Alive mem o1 n
alive_before o mem o1 n a = grind (arith, alive_is, lives_before, alive_from)

-- ---- what a run keeps

-- Bases, the lives and sizes of the objects of before, the words below a top that are in none, and links.
pub record Since (top : ℕ) (h h1 : Store) : Type 0 where
  pub grown : Grown h.bases h1.bases
  pub was : (o n : ℕ) → o < length h.mem → Alive h1.mem o n → Alive h.mem o n
  pub long : length h.mem ≤ length h1.mem
  pub like : (a : ℕ) → a < top → IsFree h a → Like (h1.cells a) (h.cells a)
  pub free : (a : ℕ) → a < top → IsFree h a → IsFree h1 a
  pub links : (a w : ℕ) → a < top → h1.cells a ≡ Held ocode.Link (ocode.Word w) → h.cells a ≡ Held ocode.Link (ocode.Word w)

pub since_refl : {top : ℕ} (h : Store) → Since top h h
since_refl h = grind (arith, like_refl)

pub since_on : {top top1 : ℕ} {h h1 h2 : Store} → top ≤ top1 → Since top h h1 → Since top1 h1 h2 → Since top h h2
since_on le a b = record {
  grown = record { each = λ o b1 e. b.grown.each o b1 (a.grown.each o b1 e) };
  was = λ o n lt l. a.was o n lt (b.was o n (let x = a.long in omega arith) l);
  long = (let x = a.long in let y = b.long in omega arith);
  like = λ x lt free. like_on _ _ _ (b.like x (omega arith) (a.free x lt free)) (a.like x lt free);
  free = λ x lt free. b.free x (omega arith) (a.free x lt free);
  links = λ x w lt e. a.links x w lt (b.links x w (omega arith) e);
}

-- words alone change, and none below the top
pub since_cells : {top : ℕ} (h : Store) {cells1 : ℕ → Cell} → ((a : ℕ) → a < top → Like (cells1 a) (h.cells a)) → Since top h (record h { cells = cells1 })
since_cells h like = grind arith

-- code moves on
pub since_moved : {codes : Codes} {top t t1 : ℕ} {h h1 : Store} → Fits codes h t → Fits codes h1 t1 → Moved top h h1 → Since top h h1
since_moved {codes} {top} {t} {t1} {h} {h1} f f1 m = record {
  grown = m.grown;
  was = λ o n lt a. m.within.was o n a;
  long = (let g = grown_length h.bases h1.bases m.grown in let e = f.long in let e1 = f1.long in omega arith);
  like = m.kept.as_was;
  free = λ a lt free o n b1 i l e1 lt1.
      let l0 = m.within.was o n l in
      let b0 = based codes h t o n f l0 in
      let eb = one_base h1.bases o b1 b0.0 e1 (m.grown.each o b0.0 b0.1) in
      subst (λ y. y + i ≢ a) (sym eb) (free o n b0.0 i l0 b0.1 lt1);
  links = m.links;
}

-- an object is made at the top or above
pub since_made : {top : ℕ} (b : ℕ) (vs : List Cell_of) (h : Store) → length h.bases ≡ length h.mem → top ≤ b → Since top h (make h b vs)
since_made b vs h long le = record {
  grown = grown_made h.bases b;
  was = λ o n lt a. ⊎_elim (λ (x : Older h.mem o n). x.alive)
      (λ (x : (o ≡ length h.mem) × (n ≡ length vs)). let z = x.0 in absurd (omega arith)) (alive_made h.mem vs o n a);
  long = (let e = length-append h.mem (living vs ∷ []) in omega arith);
  like = λ a lt free. like_refl _ _ refl;
  free = λ a lt free o n b1 i l e lt1 z. ⊎_elim
      (λ (x : (Alive h.mem o n) × (BaseOf h.bases o b1)). free o n b1 i x.0 x.1 lt1 z)
      (λ (x : (o ≡ length h.mem) × (n ≡ length vs) × (b1 ≡ b)). let x2 = x.2 in absurd (omega arith))
      (lying h b vs o n b1 long l e).lies;
  links = λ a w lt e. e;
}

-- those that were made die
pub closed_moved : {top : ℕ} {h h1 : Store} → Since top h h1 → Moved top h (forget h1 (length h.mem))
closed_moved {top} {h} {h1} m = grind (arith, alive_before)

module _ (codes : Codes) where
  -- an object is made of words below the top that are in none
  pub make_fits_in : (h : Store) (top b : ℕ) (vs : List Cell_of) → Fits codes h top → 16 ≤ b → b + length vs ≤ top → b + length vs ≤ limit
      → ((i : ℕ) → i < length vs → IsFree h (b + i))
      → ((i : ℕ) (c : Cell_of) → slice_get vs i ≡ Some c → StandsCell codes h.bases c (content_of (h.cells (b + i)))) → ((i : ℕ) → i < length vs → (k : Content) × (h.cells (b + i) ≡ Held Variable k)) → Fits codes (make h b vs) top
  make_fits_in h top b vs f from le lim free st op = record {
    long = length-append h.bases (b ∷ []) ∙ ap (λ n. n + 1) f.long ∙ sym (length-append h.mem (living vs ∷ []));
    same = λ o i c b1 e eb.
        let x = cell_in (cells_at (make h b vs).mem o) i c e in
        stands_cell_grown codes h.bases (make h b vs).bases c (content_of (h.cells (b1 + i))) (grown_made h.bases b) (⊎_elim
        (λ (y : cells_at h.mem o ≡ Some x.0).
        ⊎_elim
        (λ (z : BaseOf h.bases o b1). f.same o i c b1 (ap (λ u. option_and_then (λ cells. slice_get cells i) u) y ∙ x.2) z)
        (λ (z : (o ≡ length h.bases) × (b1 ≡ b)).
        let lt = alive_within h.mem o (length x.0) (alive_from (cells_at h.mem o) x.0 y) in let u = f.long in let z0 = z.0 in absurd (omega arith))
        (base_made h.bases b o b1 eb))
        (λ (y : (o ≡ length h.mem) × (x.0 ≡ vs)).
        ⊎_elim
        (λ (z : BaseOf h.bases o b1). let lt = slice_get_within h.bases o b1 z in let u = f.long in let y0 = y.0 in absurd (omega arith))
        (λ (z : (o ≡ length h.bases) × (b1 ≡ b)). subst (λ u. StandsCell codes h.bases c (content_of (h.cells (u + i)))) (sym z.1) (st i c (sym (ap (λ u. slice_get u i) y.1) ∙ x.2)))
        (base_made h.bases b o b1 eb))
        (cells_made h.mem vs o x.0 x.1));
    variable = λ o n b1 i a e lt. ⊎_elim
        (λ (x : (Alive h.mem o n) × (BaseOf h.bases o b1)). f.variable o n b1 i x.0 x.1 lt)
        (λ (x : (o ≡ length h.mem) × (n ≡ length vs) × (b1 ≡ b)). subst (λ y. (k : Content) × (h.cells (y + i) ≡ Held Variable k)) (sym x.2) (op i (subst (λ y. i < y) x.1 lt)))
        (lying h b vs o n b1 f.long a e).lies;
    apart = λ o n b1 i o1 n1 b2 i1 a e lt a1 e1 lt1 z.
        ⊎_elim
        (λ (x : (Alive h.mem o n) × (BaseOf h.bases o b1)). ⊎_elim
        (λ (y : (Alive h.mem o1 n1) × (BaseOf h.bases o1 b2)). f.apart o n b1 i o1 n1 b2 i1 x.0 x.1 lt y.0 y.1 lt1 z)
        (λ (y : (o1 ≡ length h.mem) × (n1 ≡ length vs) × (b2 ≡ b)). absurd (free i1 (subst (λ q. i1 < q) y.1 lt1) o n b1 i x.0 x.1 lt (z ∙ ap (λ q. q + i1) y.2)))
        (lying h b vs o1 n1 b2 f.long a1 e1).lies)
        (λ (x : (o ≡ length h.mem) × (n ≡ length vs) × (b1 ≡ b)). ⊎_elim
        (λ (y : (Alive h.mem o1 n1) × (BaseOf h.bases o1 b2)). absurd (free i (subst (λ q. i < q) x.1 lt) o1 n1 b2 i1 y.0 y.1 lt1 (sym z ∙ ap (λ q. q + i) x.2)))
        (λ (y : (o1 ≡ length h.mem) × (n1 ≡ length vs) × (b2 ≡ b)). x.0 ∙ sym y.0)
        (lying h b vs o1 n1 b2 f.long a1 e1).lies)
        (lying h b vs o n b1 f.long a e).lies;
    below = λ o n b1 a e. ⊎_elim
        (λ (x : (Alive h.mem o n) × (BaseOf h.bases o b1)). f.below o n b1 x.0 x.1)
        (λ (x : (o ≡ length h.mem) × (n ≡ length vs) × (b1 ≡ b)). let x1 = x.1 in let x2 = x.2 in omega arith)
        (lying h b vs o n b1 f.long a e).lies;
    small = λ o n b1 a e. ⊎_elim
        (λ (x : (Alive h.mem o n) × (BaseOf h.bases o b1)). f.small o n b1 x.0 x.1)
        (λ (x : (o ≡ length h.mem) × (n ≡ length vs) × (b1 ≡ b)). let x1 = x.1 in let x2 = x.2 in omega arith)
        (lying h b vs o n b1 f.long a e).lies;
    set = λ o n b1 a e. ⊎_elim
        (λ (x : (Alive h.mem o n) × (BaseOf h.bases o b1)). f.set o n b1 x.0 x.1)
        (λ (x : (o ≡ length h.mem) × (n ≡ length vs) × (b1 ≡ b)). let x2 = x.2 in omega arith)
        (lying h b vs o n b1 f.long a e).lies;
  }

  -- one above the top
  pub make_fits : (h : Store) (top b : ℕ) (vs : List Cell_of) → Fits codes h top → 16 ≤ b → top ≤ b → b + length vs ≤ limit
      → ((i : ℕ) (c : Cell_of) → slice_get vs i ≡ Some c → StandsCell codes h.bases c (content_of (h.cells (b + i))))
      → ((i : ℕ) → i < length vs → (k : Content) × (h.cells (b + i) ≡ Held Variable k)) → Fits codes (make h b vs) (b + length vs)
  make_fits h top b vs f from le lim st op =
      make_fits_in h (b + length vs) b vs (fits_more codes h top (b + length vs) (omega arith) f) from (omega arith) lim
      (λ i lt o n b1 j a e lj z. let u = f.below o n b1 a e in absurd (omega arith)) st op

  pub forget_fits : (h : Store) (top o : ℕ) → Fits codes h top → Fits codes (forget h o) top
  forget_fits h top o f = record {
    long = f.long ∙ sym (dead_length o h.mem);
    same = λ o1 i c b e eb. f.same o1 i c b (grind (arith, cell_in, lives_before)) eb;
    variable = λ o1 n b i a e lt. f.variable o1 n b i (alive_before o h.mem o1 n a).1 e lt;
    apart = λ o1 n b1 i o2 n1 b2 i1 a e lt a1 e1 lt1 z. f.apart o1 n b1 i o2 n1 b2 i1 (alive_before o h.mem o1 n a).1 e lt (alive_before o h.mem o2 n1 a1).1 e1 lt1 z;
    below = λ o1 n b a e. f.below o1 n b (alive_before o h.mem o1 n a).1 e;
    small = λ o1 n b a e. f.small o1 n b (alive_before o h.mem o1 n a).1 e;
    set = λ o1 n b a e. f.set o1 n b (alive_before o h.mem o1 n a).1 e;
  }

  -- and the others fit as before
  pub closed_fits : (top more : ℕ) (h h1 : Store) → Fits codes h top → Since top h h1 → Fits codes h1 more → Fits codes (forget h1 (length h.mem)) top
  closed_fits top more h h1 f m g = fits_less codes h (forget h1 (length h.mem)) top more f (closed_moved m) (forget_fits h1 more (length h.mem) g)
