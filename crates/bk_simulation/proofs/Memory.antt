-- The relation of memory: each object of the meaning has a base, and the words from a living object's base are its cells.
use Rattle.bk_simulation.proofs.Lists.{by_option, ◌≡◌, ◌≢◌, ℕ, zero, suc, ◌+◌, ◌-◌, ◌<◌, ◌≤◌, ◌%◌, ◌^◌, List, [], ◌∷◌, length, Option, Some, None, refl, sym, ap, ◌∙◌, subst, arith, option_and_then, slice_get_within, Value, number, address, procedure, routine, unset, holds, places, Memory, cells_of, cells_at, cell_at, Content, Word, Variable, Link, Cell, Held, content_of, byte_in, slice_get}
use Rattle.bk_meaning.specs.Values as value

-- the words of procedures, by their numbers, and of the routines of the library
pub record Codes : Type 0 where
  pub procedure : ℕ → ℕ
  pub routine : value.Routine → ℕ
  pub procedure_set : (n : ℕ) → (procedure n ≡ 0) → ⊥
  pub routine_set : (r : value.Routine) → (routine r ≡ 0) → ⊥

abbrev pub BaseOf : List ℕ → ℕ → ℕ → Type 0
BaseOf bases o b = slice_get bases o ≡ Some b

-- a living object, with its size
abbrev pub size_in : Option (List value.Cell) → Option ℕ
size_in None = None
size_in (Some cells) = Some (length cells)

abbrev pub Alive : Memory → ℕ → ℕ → Type 0
Alive mem o n = size_in (cells_at mem o) ≡ Some n

abbrev pub IsCell : Memory → ℕ → ℕ → value.Cell → Type 0
IsCell mem o i c = cell_at mem (address o i) ≡ Some c

-- the same content, a variable if it was one, and no link that was none
pub record Like (x y : Cell) : Type 0 where
  pub content : content_of x ≡ content_of y
  pub variable : (k : Content) → y ≡ Held Variable k → x ≡ Held Variable k
  pub link : (w : ℕ) → x ≡ Held Link (Word w) → y ≡ Held Link (Word w)

pub like_refl : (x y : Cell) → x ≡ y → Like x y
like_refl x y e = record { content = ap (λ z. content_of z) e; variable = λ k h. e ∙ h; link = λ w h. sym e ∙ h }

pub like_on : (x y z : Cell) → Like x y → Like y z → Like x z
like_on x y z a b = record { content = a.content ∙ b.content; variable = λ k h. a.variable k (b.variable k h); link = λ w h. b.link w (a.link w h) }

-- a byte that is set is there
abbrev pub HoldsByte : Option ℕ → Option ℕ → Type 0
HoldsByte None f = Unit {0}
HoldsByte (Some b) f = f ≡ Some b

module _ (codes : Codes) where
  -- a word's content is a value, and is a cell
  abbrev pub Applies : List ℕ → Value → Content → Type 0
  Applies bases (number n) x = x ≡ Word n
  Applies bases (address o i) x = (b : ℕ) × BaseOf bases o b × (i < 2 ^ 32) × (x ≡ Word ((b + i) % 2 ^ 32))
  Applies bases (procedure n) x = x ≡ Word (codes.procedure n)
  Applies bases (routine r) x = x ≡ Word (codes.routine r)
  Applies bases unset x = Unit {0}

  abbrev pub StandsCell : List ℕ → value.Cell → Content → Type 0
  StandsCell bases (holds v) x = Applies bases v x
  StandsCell bases (places a b c d) x = HoldsByte a (byte_in x 0) × HoldsByte b (byte_in x 1) × HoldsByte c (byte_in x 2) × HoldsByte d (byte_in x 3)

-- bases, objects and the store
pub record Store : Type 0 where
  pub bases : List ℕ
  pub mem : Memory
  pub cells : ℕ → Cell

-- a base stays
pub record Grown (bases bases1 : List ℕ) : Type 0 where
  pub each : (o b : ℕ) → BaseOf bases o b → BaseOf bases1 o b

-- each living object of the second is one of the first, with the same size
pub record Within (mem1 mem : Memory) : Type 0 where
  pub was : (o n : ℕ) → Alive mem1 o n → Alive mem o n

-- words below the top that are in no living object are as they were
pub record Kept (h : Store) (top : ℕ) (cells1 : ℕ → Cell) : Type 0 where
  pub as_was : (a : ℕ) → a < top → ((o n b i : ℕ) → Alive h.mem o n → BaseOf h.bases o b → i < n → b + i ≢ a) → Like (cells1 a) (h.cells a)

-- what code at a top may change
pub record Moved (top : ℕ) (h h1 : Store) : Type 0 where
  pub grown : Grown h.bases h1.bases
  pub within : Within h1.mem h.mem
  pub kept : Kept h top h1.cells
  -- no link is new
  pub links : (a w : ℕ) → a < top → h1.cells a ≡ Held Link (Word w) → h.cells a ≡ Held Link (Word w)

-- an address leads below this
abbrev pub limit : ℕ
limit = 2 ^ 31 - 1

-- The words from a living object's base are variables, and are its cells; living objects lie apart, below the items and above word 15.
pub record Fits (codes : Codes) (h : Store) (top : ℕ) : Type 0 where
  pub long : length h.bases ≡ length h.mem
  pub same : (o i : ℕ) (c : value.Cell) (b : ℕ) → IsCell h.mem o i c → BaseOf h.bases o b → StandsCell codes h.bases c (content_of (h.cells (b + i)))
  pub variable : (o n b i : ℕ) → Alive h.mem o n → BaseOf h.bases o b → i < n → (k : Content) × (h.cells (b + i) ≡ Held Variable k)
  pub apart : (o n b i o1 n1 b1 i1 : ℕ) → Alive h.mem o n → BaseOf h.bases o b → i < n → Alive h.mem o1 n1 → BaseOf h.bases o1 b1 → i1 < n1 → b + i ≡ b1 + i1 → o ≡ o1
  pub below : (o n b : ℕ) → Alive h.mem o n → BaseOf h.bases o b → b + n ≤ top
  pub small : (o n b : ℕ) → Alive h.mem o n → BaseOf h.bases o b → b + n ≤ limit
  pub set : (o n b : ℕ) → Alive h.mem o n → BaseOf h.bases o b → 16 ≤ b

-- lists
pub get_at : {A : Type 0} (xs : List A) (i : ℕ) → i < length xs → (x : A) × (slice_get xs i ≡ Some x)
get_at [] i h = absurd (omega arith)
get_at (x ∷ xs) zero h = (x, refl)
get_at (x ∷ xs) (suc i) h = get_at xs i (omega arith)

-- an object that lives is in memory
pub alive_within : (mem : Memory) (o n : ℕ) → Alive mem o n → o < length mem
alive_within mem o n h = by_option (λ x. size_in (cells_of x) ≡ Some n → o < length mem) (slice_get mem o) (λ _ h. absurd (cc)) (λ x e h. slice_get_within mem o x e) h

-- a cell is in a living object
pub cell_alive : (mem : Memory) (o i : ℕ) (c : value.Cell) → IsCell mem o i c → (n : ℕ) × Alive mem o n × (i < n)
cell_alive mem o i c h =
    by_option (λ x. option_and_then (λ cells. slice_get cells i) x ≡ Some c → (n : ℕ) × Alive mem o n × (i < n)) (cells_at mem o) (λ _ h. absurd (cc)) (λ cells e h. (length cells, ap (λ y. size_in y) e, slice_get_within cells i c h)) h

-- a living object has a base, and one alone
pub based : (codes : Codes) (h : Store) (top o n : ℕ) → Fits codes h top → Alive h.mem o n → (b : ℕ) × BaseOf h.bases o b
based codes h top o n f a =
    let lt : o < length h.mem = alive_within h.mem o n a in
    get_at h.bases o (omega (arith, f.long))

pub one_base : (bases : List ℕ) (o b b1 : ℕ) → BaseOf bases o b → BaseOf bases o b1 → b ≡ b1
one_base bases o b b1 e e1 = cc

-- values stand where bases grow, and where words are alike
pub stands_grown : (codes : Codes) (bases bases1 : List ℕ) (v : Value) (x : Content) → Grown bases bases1 → Applies codes bases v x → Applies codes bases1 v x
stands_grown codes bases bases1 (address o i) x g s = (s.0, g.each o s.0 s.1, s.2, s.3)
stands_grown codes bases bases1 _ x g s = s

pub stands_cell_like : (codes : Codes) (bases : List ℕ) (c : value.Cell) (x y : Cell) → Like x y → StandsCell codes bases c (content_of y) → StandsCell codes bases c (content_of x)
stands_cell_like codes bases c x y l s = subst (λ k. StandsCell codes bases c k) (sym l.content) s

-- what moves nothing, and one move behind another
pub moved_refl : (top : ℕ) (h : Store) → Moved top h h
moved_refl top h = record { grown = record { each = λ o b e. e }; within = record { was = λ o n a. a }; kept = record { as_was = λ a lt no. like_refl _ _ refl }; links = λ a w lt e. e }

pub moved_on : (codes : Codes) (top top0 top1 : ℕ) (h h1 h2 : Store) → Fits codes h top0 → top ≤ top1 → Moved top h h1 → Moved top1 h1 h2 → Moved top h h2
moved_on codes top top0 top1 h h1 h2 f le a b = record {
  grown = record { each = λ o b0 e. b.grown.each o b0 (a.grown.each o b0 e) };
  within = record { was = λ o n l. a.within.was o n (b.within.was o n l) };
  kept = record {
    as_was = λ x lt no.
        like_on _ _ _ (b.kept.as_was x (omega arith) (λ o n b1 i l e1 lt1.
        let l0 = a.within.was o n l in
        let b0 = based codes h top0 o n f l0 in
        let eb = one_base h1.bases o b1 b0.0 e1 (a.grown.each o b0.0 b0.1) in
        subst (λ y. y + i ≢ x) (sym eb) (no o n b0.0 i l0 b0.1 lt1))) (a.kept.as_was x lt no);
  };
  links = λ x w lt e. a.links x w lt (b.links x w (omega arith) e);
}

-- the store changed above the top alone
pub fits_above : (codes : Codes) (h : Store) (top : ℕ) (cells1 : ℕ → Cell) → Fits codes h top → ((a : ℕ) → a < top → Like (cells1 a) (h.cells a)) → Fits codes (record h { cells = cells1 }) top
fits_above codes h top cells1 f k = record {
  long = f.long;
  same = λ o i c b ic e.
      let l = cell_alive h.mem o i c ic in
      let le = f.below o l.0 b l.1 e in
      stands_cell_like codes h.bases c _ _ (k (b + i) (omega (arith, l.2))) (f.same o i c b ic e);
  variable = λ o n b i a e lt. let le = f.below o n b a e in let v = f.variable o n b i a e lt in (v.0, (k (b + i) (omega arith)).variable v.0 v.1);
  apart = f.apart;
  below = f.below;
  small = f.small;
  set = f.set;
}

pub moved_above : (h : Store) (top : ℕ) (cells1 : ℕ → Cell) → ((a : ℕ) → a < top → Like (cells1 a) (h.cells a)) → Moved top h (record h { cells = cells1 })
moved_above h top cells1 k = record { grown = record { each = λ o b e. e }; within = record { was = λ o n a. a }; kept = record { as_was = λ a lt no. k a lt }; links = λ a w lt e. (k a lt).link w e }

-- at a higher top, and back at a lower one
pub fits_more : (codes : Codes) (h : Store) (top more : ℕ) → top ≤ more → Fits codes h top → Fits codes h more
fits_more codes h top more le f = grind arith

pub fits_less : (codes : Codes) (h h1 : Store) (top more : ℕ) → Fits codes h top → Moved top h h1 → Fits codes h1 more → Fits codes h1 top
fits_less codes h h1 top more f m g = record {
  long = g.long;
  same = g.same;
  variable = g.variable;
  apart = g.apart;
  small = g.small;
  set = g.set;
  below = λ o n b a e.
      let l0 = m.within.was o n a in
      let b0 = based codes h top o n f l0 in
      let eb = one_base h1.bases o b b0.0 e (m.grown.each o b0.0 b0.1) in
      subst (λ y. y + n ≤ top) (sym eb) (f.below o n b0.0 l0 b0.1);
}

-- the same at a lower top
pub moved_less : (h h1 : Store) (top more : ℕ) → top ≤ more → Moved more h h1 → Moved top h h1
moved_less h h1 top more le m = record { grown = m.grown; within = m.within; kept = record { as_was = λ a lt no. m.kept.as_was a (omega arith) no }; links = λ a w lt e. m.links a w (omega arith) e }
