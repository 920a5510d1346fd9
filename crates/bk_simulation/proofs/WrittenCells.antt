-- Reading and writing the words of living objects.
use Rattle.bk_simulation.proofs.Lists.{either_way, ◌≡◌, ◌≢◌, ℕ, ◌+◌, ◌-◌, ◌<◌, ◌≤◌, ◌%◌, ◌^◌, ◌==◌, Bool, cond, List, length, Option, Some, None, refl, sym, ap, ◌∙◌, subst, if◌then◌else◌, arith, ◌⊎◌, ⊎_elim, inl, inr, nat_lt, slice_get, slice_set, is_some, option_and_then, nat_tests, slice_get_within, Value, number, address, unset, holds, places, value_in, Memory, living, cells_of, cells_at, cell_at, replaced, with_cell, read, Content, Word, Variable, Link, Cell, Free, Held, content_of, write, below, settle, variable_in, variable_at, le-ltb, length-set, lt-ltb, Cell_of}
use Rattle.bk_simulation.proofs.MadeObjects.{alive_is, alive_from, cell_in, object_there, get_set, Like, like_refl, BaseOf, size_in, Alive, IsCell, Store, Moved, cell_alive, one_base, Codes, Applies, StandsCell, Fits}

-- ---- cells of the store

pub written : (f : ℕ → Cell) (a : ℕ) (c : Cell) → write f a c a ≡ c
written f a c = grind (arith, nat_tests)

pub untouched : (f : ℕ → Cell) (a : ℕ) (c : Cell) (x : ℕ) → x ≢ a → write f a c x ≡ f x
untouched f a c x ne = grind (arith, nat_tests)

-- what is in use below a place is as it was
pub below_at : (top : ℕ) (cells : ℕ → Cell) (a : ℕ) → a < top → below top cells a ≡ cells a
below_at top cells a lt = ap (λ (t : Bool). if t then cells a else Free) (lt-ltb a top lt)

pub below_like : (top : ℕ) (cells : ℕ → Cell) (a : ℕ) → a < top → Like (below top cells a) (cells a)
below_like top cells a lt = like_refl _ _ (below_at top cells a lt)

pub pushed_like : (frame k : ℕ) (cells : ℕ → Cell) (c : Cell) (a : ℕ) → a < frame + k → Like (below (frame + (k + 1)) (write cells (frame + k) c) a) (cells a)
pushed_like frame k cells c a lt = like_refl _ _ (grind (arith, below_at, untouched))

pub pushed_at : (frame k : ℕ) (cells : ℕ → Cell) (c : Cell) → below (frame + (k + 1)) (write cells (frame + k) c) (frame + k) ≡ c
pushed_at frame k cells c = below_at (frame + (k + 1)) (write cells (frame + k) c) (frame + k) (omega arith) ∙ written cells (frame + k) c

-- a variable below a place is found at its address
pub variable_found : (top a : ℕ) (cells : ℕ → Cell) (k : Content) → a < top → cells a ≡ Held Variable k → variable_at top cells a ≡ Some k
variable_found top a cells k lt e = ap (λ (t : Bool). if t then variable_in (cells a) else None) (lt-ltb a top lt) ∙ ap variable_in e

-- ---- a cell of a living object is changed

pub record Wrote (mem mem1 : Memory) (o i : ℕ) (c : Cell_of) : Type 0 where
  pub size : ℕ
  pub alive : Alive mem o size
  pub inside : i < size
  pub long : length mem1 ≡ length mem
  pub is_alive : (o1 n : ℕ) → Alive mem1 o1 n → Alive mem o1 n
  pub is_cell : (o1 i1 : ℕ) (u : Cell_of) → IsCell mem1 o1 i1 u → ((o1 ≡ o) × (i1 ≡ i) × (u ≡ c)) ⊎ (IsCell mem o1 i1 u × ((o1 ≡ o) × (i1 ≡ i) → ⊥))

-- what a change comes to, if it is allowed
pub record Change (mem mem1 : Memory) (o i : ℕ) (c : Cell_of) : Type 0 where
  pub cells : List Cell_of
  pub is : cells_at mem o ≡ Some cells
  pub inside : i < length cells
  pub changes : mem1 ≡ slice_set mem o (living (slice_set cells i c))

pub change_of : (mem mem1 : Memory) (o i : ℕ) (c : Cell_of) → with_cell mem (address o i) c ≡ Some mem1 → Change mem mem1 o i c
change_of mem mem1 o i c h = by_cells (cells_at mem o) refl h
  where
    by_place : (cells : List Cell_of) → cells_at mem o ≡ Some cells → (x : Option Cell_of) → slice_get cells i ≡ x
        → cond (is_some x) (Some (slice_set mem o (living (slice_set cells i c)))) None ≡ Some mem1 → Change mem mem1 o i c
    by_place cells e None ex h = absurd (cc)
    by_place cells e (Some x) ex h = record { cells = cells; is = e; inside = slice_get_within cells i x ex; changes = cc }

    by_cells : (y : Option (List Cell_of)) → cells_at mem o ≡ y → replaced mem o i c y ≡ Some mem1 → Change mem mem1 o i c
    by_cells None e h = absurd (cc)
    by_cells (Some cells) e h = by_place cells e (slice_get cells i) refl h

pub wrote : (mem mem1 : Memory) (o i : ℕ) (c : Cell_of) → with_cell mem (address o i) c ≡ Some mem1 → Wrote mem mem1 o i c
wrote mem mem1 o i c h =
    let object_after : (g : Change mem mem1 o i c) (o1 : ℕ) (cells : List Cell_of) → cells_at mem1 o1 ≡ Some cells
    → ((o1 ≡ o) × (living cells ≡ living (slice_set g.cells i c))) ⊎ ((o1 ≢ o) × (slice_get mem o1 ≡ Some (living cells))) = λ g o1 cells e.
    get_set mem o o1 (living (slice_set g.cells i c)) (living cells)
    (sym (ap (λ q. slice_get q o1) g.changes) ∙ object_there mem1 o1 cells e) in
    let cells_after : (g : Change mem mem1 o i c) (o1 : ℕ) (cells : List Cell_of) → cells_at mem1 o1 ≡ Some cells → ((o1 ≡ o) × (cells ≡ slice_set g.cells i c)) ⊎ (cells_at mem o1 ≡ Some cells) =
    λ g o1 cells e.
    ⊎_elim
    (λ (p : (o1 ≡ o) × (living cells ≡ living (slice_set g.cells i c))). inl (p.0, cc))
    (λ (p : (o1 ≢ o) × (slice_get mem o1 ≡ Some (living cells))). inr (ap cells_of p.1))
    (object_after g o1 cells e) in
    let g = change_of mem mem1 o i c h in
    let own = g.cells in
    record {
      size = length own;
      alive = alive_from (cells_at mem o) own g.is;
      inside = g.inside;
      long = ap length g.changes ∙ length-set mem o (living (slice_set own i c));
      is_alive = λ o1 n a.
          let l = alive_is (cells_at mem1 o1) n a in
          ⊎_elim
          (λ (e : (o1 ≡ o) × (l.cells ≡ slice_set own i c)).
          ap (λ q. size_in (cells_at mem q)) e.0 ∙ alive_from (cells_at mem o) own g.is ∙ ap (λ q. Some q) (sym (length-set own i c) ∙ sym (ap length e.1) ∙ l.long))
          (λ (e : cells_at mem o1 ≡ Some l.cells). alive_from (cells_at mem o1) l.cells e ∙ ap (λ q. Some q) l.long)
          (cells_after g o1 l.cells l.is);
      is_cell = λ o1 i1 u h1.
          let x = cell_in (cells_at mem1 o1) i1 u h1 in
          by_age g o1 i1 u x.0 x.2 (object_after g o1 x.0 x.1);
    }
  where
    at_cells : (y z : Option (List Cell_of)) (i1 : ℕ) (u : Cell_of) (cells : List Cell_of) → y ≡ Some cells → slice_get cells i1 ≡ Some u → option_and_then (λ cells. slice_get cells i1) y ≡ Some u
    at_cells y z i1 u cells e h = ap (λ q. option_and_then (λ cells. slice_get cells i1) q) e ∙ h

    by_age : (g : Change mem mem1 o i c) (o1 i1 : ℕ) (u : Cell_of) (cells : List Cell_of) → slice_get cells i1 ≡ Some u
        → ((o1 ≡ o) × (living cells ≡ living (slice_set g.cells i c))) ⊎ ((o1 ≢ o) × (slice_get mem o1 ≡ Some (living cells)))
        → ((o1 ≡ o) × (i1 ≡ i) × (u ≡ c)) ⊎ (IsCell mem o1 i1 u × ((o1 ≡ o) × (i1 ≡ i) → ⊥))
    by_age g o1 i1 u cells hu (inl p) =
        let same : cells ≡ slice_set g.cells i c = (let q = p.1 in cc) in
        ⊎_elim
        (λ (q : (i1 ≡ i) × (u ≡ c)). inl (p.0, q.0, q.1))
        (λ (q : (i1 ≢ i) × (slice_get g.cells i1 ≡ Some u)).
        inr (ap (λ n. cell_at mem (address n i1)) p.0 ∙ at_cells (cells_at mem o) None i1 u g.cells g.is q.1, λ r. q.0 r.1))
        (get_set g.cells i i1 c u (sym (ap (λ q. slice_get q i1) same) ∙ hu))
    by_age g o1 i1 u cells hu (inr p) = inr (at_cells (cells_at mem o1) None i1 u cells (ap cells_of p.1) hu, λ r. p.0 r.0)

-- the store with that memory and this content at a place
abbrev pub put : Store → Memory → ℕ → Content → Store
put h mem1 a x = record { bases = h.bases; mem = mem1; cells = write h.cells a (Held Variable x) }

stays_variable : (f : ℕ → Cell) (a : ℕ) (x : Content) (y : ℕ) → ((k : Content) × (f y ≡ Held Variable k)) → (k : Content) × (write f a (Held Variable x) y ≡ Held Variable k)
stays_variable f a x y h = either_way (λ c. (k : Content) × (c ≡ Held Variable k)) (y == a) (Held Variable x) (f y) (x, refl) h

pub write_fits : (codes : Codes) (h : Store) (top o i b : ℕ) (x : Content) (c : Cell_of) (mem1 : Memory) → BaseOf h.bases o b → StandsCell codes h.bases c x → Wrote h.mem mem1 o i c
    → Fits codes h top → Fits codes (put h mem1 (b + i) x) top
write_fits codes h top o i b x c mem1 eb st wr f = record {
  long = f.long ∙ sym wr.long;
  same = λ o1 i1 u b1 e e1. ⊎_elim
      (λ (q : (o1 ≡ o) × (i1 ≡ i) × (u ≡ c)).
      let e0 = one_base h.bases o b1 b (subst (λ y. BaseOf h.bases y b1) q.0 e1) eb in
      let ad : b1 + i1 ≡ b + i = ap (λ y. y + i1) e0 ∙ ap (λ y. b + y) q.1 in
      subst (λ z. StandsCell codes h.bases u (content_of (write h.cells (b + i) (Held Variable x) z))) (sym ad)
      (subst (λ y. StandsCell codes h.bases u (content_of y)) (sym (written h.cells (b + i) (Held Variable x))) (subst (λ y. StandsCell codes h.bases y x) (sym q.2) st)))
      (λ (q : IsCell h.mem o1 i1 u × ((o1 ≡ o) × (i1 ≡ i) → ⊥)).
      let l = cell_alive h.mem o1 i1 u q.0 in
      let ne : b1 + i1 ≢ b + i = λ z.
      let eo = f.apart o1 l.0 b1 i1 o wr.size b i l.1 e1 l.2 wr.alive eb wr.inside z in
      let e0 = one_base h.bases o b1 b (subst (λ y. BaseOf h.bases y b1) eo e1) eb in
      q.1 (eo, omega arith) in
      subst (λ y. StandsCell codes h.bases u (content_of y)) (sym (untouched h.cells (b + i) (Held Variable x) (b1 + i1) ne)) (f.same o1 i1 u b1 q.0 e1))
      (wr.is_cell o1 i1 u e);
  variable = λ o1 n b1 i1 a e lt. stays_variable h.cells (b + i) x (b1 + i1) (f.variable o1 n b1 i1 (wr.is_alive o1 n a) e lt);
  apart = λ o1 n b1 i1 o2 n2 b2 i2 a e lt a1 e1 lt1 z. f.apart o1 n b1 i1 o2 n2 b2 i2 (wr.is_alive o1 n a) e lt (wr.is_alive o2 n2 a1) e1 lt1 z;
  below = λ o1 n b1 a e. f.below o1 n b1 (wr.is_alive o1 n a) e;
  small = λ o1 n b1 a e. f.small o1 n b1 (wr.is_alive o1 n a) e;
  set = λ o1 n b1 a e. f.set o1 n b1 (wr.is_alive o1 n a) e;
}

no_link : (x : Content) (w : ℕ) → Held Variable x ≡ Held Link (Word w) → ⊥
no_link x w e = absurd (cc)

old_link : (f : ℕ → Cell) (at : ℕ) (x : Content) (a w : ℕ) → write f at (Held Variable x) a ≡ Held Link (Word w) → f a ≡ Held Link (Word w)
old_link f at x a w e = either_way (λ c. c ≡ Held Link (Word w) → f a ≡ Held Link (Word w)) (a == at) (Held Variable x) (f a) (λ e. absurd (no_link x w e)) (λ e. e) e

pub write_moved : (h : Store) (top o i b : ℕ) (x : Content) (c : Cell_of) (mem1 : Memory) → BaseOf h.bases o b → Wrote h.mem mem1 o i c → Moved top h (put h mem1 (b + i) x)
write_moved h top o i b x c mem1 eb wr = record {
  grown = record { each = λ o1 b1 e. e };
  within = record { was = wr.is_alive };
  kept = record { as_was = λ a lt free. let ne : a ≢ b + i = λ z. free o wr.size b i wr.alive eb wr.inside (sym z) in like_refl _ _ (untouched h.cells (b + i) (Held Variable x) a ne) };
  links = λ a w lt e. old_link h.cells (b + i) x a w e;
}

-- ---- at an address

small_word : (b i n : ℕ) → i < n → b + n ≤ 2 ^ 31 - 1 → (b + i) % 2 ^ 32 ≡ b + i
small_word b i n lt le = omega arith

-- a cell there, in the store
pub record Found (codes : Codes) (h : Store) (top : ℕ) (o i b : ℕ) (c : Cell_of) : Type 0 where
  pub base : BaseOf h.bases o b
  pub low : b + i < top
  pub is_word : (b + i) % 2 ^ 32 ≡ b + i
  pub content : Content
  pub there : h.cells (b + i) ≡ Held Variable content
  pub stands : StandsCell codes h.bases c content

pub found : (codes : Codes) (h : Store) (top o i b : ℕ) (c : Cell_of) → Fits codes h top → BaseOf h.bases o b → IsCell h.mem o i c → Found codes h top o i b c
found codes h top o i b c f eb e =
    let l = cell_alive h.mem o i c e in
    let lt : i < l.0 = l.2 in
    let le = f.below o l.0 b l.1 eb in
    let small : b + l.0 ≤ 2 ^ 31 - 1 = f.small o l.0 b l.1 eb in
    let v = f.variable o l.0 b i l.1 eb lt in
    record {
      base = eb;
      low = omega arith;
      is_word = small_word b i l.0 lt small;
      content = v.0;
      there = v.1;
      stands = subst (λ x. StandsCell codes h.bases c x) (ap content_of v.1) (f.same o i c b e eb);
    }

-- a value that is read was put there
value_held : (c : Cell_of) (v : Value) → value_in c ≡ Some v → c ≡ holds v
value_held (holds unset) v e = absurd (cc)
value_held (places p q r t) v e = absurd (cc)
value_held _ v e = cc

cell_read : (y : Option Cell_of) (v : Value) → option_and_then value_in y ≡ Some v → y ≡ Some (holds v)
cell_read None v e = absurd (cc)
cell_read (Some c) v e = ap (λ z. Some z) (value_held c v e)

-- the value of a word whose base is known
pub read_here : (codes : Codes) (h : Store) (top o i b : ℕ) (v : Value) → Fits codes h top → BaseOf h.bases o b → read h.mem (address o i) ≡ Some v → Found codes h top o i b (holds v)
read_here codes h top o i b v f eb e = found codes h top o i b (holds v) f eb (cell_read (cell_at h.mem (address o i)) v e)

-- A cell at an address that stands on the stack: the address is its place.
pub record FoundAt (codes : Codes) (h : Store) (top : ℕ) (a : Value) (x : Content) (c : Cell_of) : Type 0 where
  pub object : ℕ
  pub offset : ℕ
  pub base : ℕ
  pub address_is : a ≡ address object offset
  pub word : x ≡ Word (base + offset)
  pub cell : Found codes h top object offset base c

pub found_at : (codes : Codes) (h : Store) (top : ℕ) (a : Value) (x : Content) (c : Cell_of) → Fits codes h top → Applies codes h.bases a x → cell_at h.mem a ≡ Some c → FoundAt codes h top a x c
found_at codes h top (address o i) x c f s e =
    let g = found codes h top o i s.0 c f s.1 e in
    record { object = o; offset = i; base = s.0; address_is = refl; word = s.3 ∙ ap Word g.is_word; cell = g }
found_at codes h top _ x c f s e = absurd (let z : None ≡ Some c = e in cc)

pub read_at : (codes : Codes) (h : Store) (top : ℕ) (a v : Value) (x : Content) → Fits codes h top → Applies codes h.bases a x → read h.mem a ≡ Some v → FoundAt codes h top a x (holds v)
read_at codes h top a v x f s e = found_at codes h top a x (holds v) f s (cell_read (cell_at h.mem a) v e)

-- ---- a cell is changed in the store too

pub record Written (codes : Codes) (h : Store) (top o i b : ℕ) (c : Cell_of) (mem1 : Memory) : Type 0 where
  pub low : b + i < top
  pub is_word : (b + i) % 2 ^ 32 ≡ b + i
  pub content : Content
  pub there : h.cells (b + i) ≡ Held Variable content
  pub fits : (y : Content) → StandsCell codes h.bases c y → Fits codes (put h mem1 (b + i) y) top
  pub moved : (y : Content) (t : ℕ) → Moved t h (put h mem1 (b + i) y)

pub write_here : (codes : Codes) (h : Store) (top o i b : ℕ) (c : Cell_of) (mem1 : Memory) → Fits codes h top → BaseOf h.bases o b → with_cell h.mem (address o i) c ≡ Some mem1
    → Written codes h top o i b c mem1
write_here codes h top o i b c mem1 f eb e =
    let w = wrote h.mem mem1 o i c e in
    let n = w.size in
    let lt = w.inside in
    let le = f.below o n b w.alive eb in
    let small : b + n ≤ 2 ^ 31 - 1 = f.small o n b w.alive eb in
    let v = f.variable o n b i w.alive eb lt in
    record {
      low = omega arith;
      is_word = small_word b i n lt small;
      content = v.0;
      there = v.1;
      fits = λ y s. write_fits codes h top o i b y c mem1 eb s w f;
      moved = λ y t. write_moved h t o i b y c mem1 eb w;
    }

pub record WrittenAt (codes : Codes) (h : Store) (top : ℕ) (a : Value) (x : Content) (c : Cell_of) (mem1 : Memory) : Type 0 where
  pub object : ℕ
  pub offset : ℕ
  pub base : ℕ
  pub address_is : a ≡ address object offset
  pub word : x ≡ Word (base + offset)
  pub cell : Written codes h top object offset base c mem1

pub write_at : (codes : Codes) (h : Store) (top : ℕ) (a : Value) (x : Content) (c : Cell_of) (mem1 : Memory) → Fits codes h top → Applies codes h.bases a x → with_cell h.mem a c ≡ Some mem1
    → WrittenAt codes h top a x c mem1
write_at codes h top (address o i) x c mem1 f s e =
    let g = write_here codes h top o i s.0 c mem1 f s.1 e in
    record { object = o; offset = i; base = s.0; address_is = refl; word = s.3 ∙ ap Word g.is_word; cell = g }
write_at codes h top _ x c mem1 f s e = absurd (let z : None ≡ Some mem1 = e in cc)

-- ---- words that become variables

pub settle_like : (from to : ℕ) (cells : ℕ → Cell) (a : ℕ) → Like (settle from to cells a) (cells a)
settle_like from to cells a = either_way (λ c. Like c (cells a)) (nat_lt a from) (cells a) _ (like_refl _ _ refl) (either_way (λ c. Like c (cells a)) (nat_lt a to) (Held Variable (content_of (cells a))) (cells a)
    (record { content = refl; variable = λ k e. ap (λ (z : Cell). Held Variable (content_of z)) e; link = λ w e. absurd (no_link (content_of (cells a)) w e) }) (like_refl _ _ refl))

pub settle_at : (from to : ℕ) (cells : ℕ → Cell) (a : ℕ) → from ≤ a → a < to → settle from to cells a ≡ Held Variable (content_of (cells a))
settle_at from to cells a le lt = grind (arith, le-ltb, lt-ltb)
