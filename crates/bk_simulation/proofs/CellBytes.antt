-- Bytes of cells of the meaning, and of contents of OCODE.
use Rattle.bk_simulation.proofs.Lists.{either_way, by_option, ◌≡◌, ℕ, zero, suc, ◌+◌, ◌<◌, ◌%◌, ◌^◌, ◌==◌, Bool, true, false, cond, List, Option, Some, None, refl, sym, ap, ◌∙◌, subst, if◌then◌else◌, arith, option_and_then, option_map, word_sum, word_with_byte, byte_distance, byte_place, Value, number, address, unset, holds, places, filled, set_among, Memory, cell_at, with_cell, cell_of_byte, read_byte, write_byte, Content, Unset, Partly, Word, Variable, Held, byte_in, four_bytes, with_byte, variable_at, byte_at, word_with_byte_at, word_byte-small, word_byte-packed_0, word_byte-packed_1, word_byte-packed_2, word_byte-packed_3, Cell_of}
use Rattle.bk_meaning.specs.Values as value
use Rattle.bk_simulation.proofs.Memory.{Store, HoldsByte, Codes, Applies, StandsCell, Moved, Fits}
use Rattle.bk_simulation.proofs.WrittenCells.{FoundAt, found_at, write_at, put, variable_found}

-- a byte that is set is one
abbrev pub IsByte : Option ℕ → Type 0
IsByte None = Unit {0}
IsByte (Some x) = x < 2 ^ 8

-- so are those of a word of which some are set
abbrev pub AreBytes : Content → Type 0
AreBytes (Partly b0 b1 b2 b3) = IsByte b0 × IsByte b1 × IsByte b2 × IsByte b3
AreBytes _ = Unit {0}

pub byte_is : (x : Content) (i : ℕ) → AreBytes x → IsByte (byte_in x i)
byte_is Unset i are = tt
byte_is (Word w) i are = word_byte-small w i
byte_is (Partly b0 b1 b2 b3) i are = either_way IsByte (i == 0) b0 _ are.0 (either_way IsByte (i == 1) b1 _ are.1 (either_way IsByte (i == 2) b2 b3 are.2 are.3))

-- ---- four bytes

abbrev FourAre : Content → Option ℕ → Option ℕ → Option ℕ → Option ℕ → Type 0
FourAre x p q r t = (byte_in x 0 ≡ p) × (byte_in x 1 ≡ q) × (byte_in x 2 ≡ r) × (byte_in x 3 ≡ t)

pub bytes_of_four : (p q r t : Option ℕ) → IsByte p → IsByte q → IsByte r → IsByte t → FourAre (four_bytes p q r t) p q r t
bytes_of_four (Some a) (Some b) (Some c) (Some d) ha hb hc hd = grind (arith, word_byte-packed_0, word_byte-packed_1, word_byte-packed_2, word_byte-packed_3)
bytes_of_four _ _ _ _ ha hb hc hd = (refl, refl, refl, refl)

pub four_are_bytes : (p q r t : Option ℕ) → IsByte p → IsByte q → IsByte r → IsByte t → AreBytes (four_bytes p q r t)
four_are_bytes (Some a) (Some b) (Some c) (Some d) ha hb hc hd = tt
four_are_bytes _ _ _ _ ha hb hc hd = (ha, hb, hc, hd)

holds_at : (p f g : Option ℕ) → HoldsByte p f → g ≡ f → HoldsByte p g
holds_at p f g h e = subst (λ y. HoldsByte p y) (sym e) h

module _ (codes : Codes) (bases : List ℕ) where
  -- four places, some filled, and four bytes of which those are the same
  pub four_stand : (p q r t p1 q1 r1 t1 : Option ℕ) → HoldsByte p p1 → HoldsByte q q1 → HoldsByte r r1 → HoldsByte t t1 → IsByte p1 → IsByte q1 → IsByte r1 → IsByte t1
      → StandsCell codes bases (filled p q r t) (four_bytes p1 q1 r1 t1)
  four_stand (Some a) (Some b) (Some c) (Some d) p1 q1 r1 t1 hp hq hr ht ip iq ir it = grind (arith, four_bytes)
  four_stand p q r t p1 q1 r1 t1 hp hq hr ht ip iq ir it = grind (arith, bytes_of_four, holds_at, byte_in, four_bytes)

  -- ---- reading a byte

  filled_there : (p : Option ℕ) (b : ℕ) (f : Option ℕ) → HoldsByte p f → p ≡ Some b → f ≡ Some b
  filled_there (Some a) b f h e = h ∙ e
  filled_there None b f h e = absurd (cc)

  pub byte_same : (c : Cell_of) (x : Content) (i b : ℕ) → StandsCell codes bases c x → i < 4 → value.byte_in c i ≡ Some b → byte_in x i ≡ Some b
  byte_same (holds (number n)) x i b s lt e = ap (λ y. byte_in y i) s ∙ e
  byte_same (places p q r t) x zero b s lt e = filled_there p b (byte_in x 0) s.0 e
  byte_same (places p q r t) x (suc zero) b s lt e = filled_there q b (byte_in x 1) s.1 e
  byte_same (places p q r t) x (suc (suc zero)) b s lt e = filled_there r b (byte_in x 2) s.2 e
  byte_same (places p q r t) x (suc (suc (suc zero))) b s lt e = filled_there t b (byte_in x 3) s.3 e
  byte_same (places p q r t) x (suc (suc (suc (suc i)))) b s lt e = absurd (omega arith)
  byte_same _ x i b s lt e = absurd (cc)

  -- ---- setting one

  put_byte : (t : Bool) (b : ℕ) (p f : Option ℕ) → HoldsByte p f → HoldsByte (cond t (Some b) p) (if t then Some b else f)
  put_byte true b p f h = refl
  put_byte false b p f h = h

  put_is_byte : (t : Bool) (b : ℕ) (f : Option ℕ) → b < 2 ^ 8 → IsByte f → IsByte (if t then Some b else f)
  put_is_byte true b f hb hf = hb
  put_is_byte false b f hb hf = hf

  picked : (t : Bool) (b y : ℕ) → (if t then Some b else Some y) ≡ Some (if t then b else y)
  picked true b y = refl
  picked false b y = refl

  some_cell : (c d : Cell_of) → Some c ≡ Some d → c ≡ d
  some_cell c d e = cc

  -- among four places
  set_stands : (p q r t : Option ℕ) (x : Content) (i b : ℕ) (d : Cell_of) → HoldsByte p (byte_in x 0) → HoldsByte q (byte_in x 1) → HoldsByte r (byte_in x 2) → HoldsByte t (byte_in x 3)
      → AreBytes x → b < 2 ^ 8 → set_among p q r t i b ≡ Some d → StandsCell codes bases d (with_byte x i b)
  set_stands p q r t x i b d hp hq hr ht are small e =
      subst (λ y. StandsCell codes bases y (with_byte x i b)) (some_cell _ d e)
      (four_stand (cond (i == 0) (Some b) p) (cond (i == 1) (Some b) q) (cond (i == 2) (Some b) r) (cond (i == 3) (Some b) t)
      (if i == 0 then Some b else byte_in x 0) (if i == 1 then Some b else byte_in x 1) (if i == 2 then Some b else byte_in x 2) (if i == 3 then Some b else byte_in x 3)
      (put_byte (i == 0) b p (byte_in x 0) hp) (put_byte (i == 1) b q (byte_in x 1) hq) (put_byte (i == 2) b r (byte_in x 2) hr) (put_byte (i == 3) b t (byte_in x 3) ht)
      (put_is_byte (i == 0) b (byte_in x 0) small (byte_is x 0 are)) (put_is_byte (i == 1) b (byte_in x 1) small (byte_is x 1 are))
      (put_is_byte (i == 2) b (byte_in x 2) small (byte_is x 2 are)) (put_is_byte (i == 3) b (byte_in x 3) small (byte_is x 3 are)))

  number_stands : (n i b : ℕ) → with_byte (Word n) i b ≡ Word (word_with_byte n i b)
  number_stands n i b = grind (arith, four_bytes, picked)

  pub byte_set : (c : Cell_of) (x : Content) (i b : ℕ) (d : Cell_of) → StandsCell codes bases c x → AreBytes x → b < 2 ^ 8 → value.with_byte c i b ≡ Some d
      → StandsCell codes bases d (with_byte x i b)
  byte_set (holds (number n)) x i b d s are small e = grind (arith, some_cell, number_stands)
  byte_set (holds unset) x i b d s are small e = set_stands None None None None x i b d tt tt tt tt are small e
  byte_set (places p q r t) x i b d s are small e = set_stands p q r t x i b d s.0 s.1 s.2 s.3 are small e
  byte_set _ x i b d s are small e = absurd (cc)

-- ---- at an address

-- byte i of the words at an address lies where it does in the store
further : (b k d : ℕ) → ((b + k) % 2 ^ 32 + d) % 2 ^ 32 ≡ (b + (k + d) % 2 ^ 32) % 2 ^ 32
further b k d = omega arith

pub word_number : (w n : ℕ) → Word w ≡ Word n → w ≡ n
word_number w n e = cc

pub byte_address : (codes : Codes) (bases : List ℕ) (a : Value) (s i : ℕ) → Applies codes bases a (Word s) → ((o k : ℕ) → a ≡ address o k → Applies codes bases (cell_of_byte a i) (Word (word_sum s (byte_distance i))))
byte_address codes bases (address o k) s i st o1 k1 e = grind (arith, word_number, further)
byte_address codes bases _ s i st o1 k1 e = absurd (cc)

set_word : (codes : Codes) (bases : List ℕ) (a : Value) (x : Content) (o k : ℕ) → a ≡ address o k → Applies codes bases a x → (w : ℕ) × (x ≡ Word w)
set_word codes bases (address o1 k1) x o k e st = ((st.0 + k1) % 2 ^ 32, st.3)
set_word codes bases _ x o k e st = absurd (cc)

-- the cell in which a byte lies, in the store
pub record ByteCell (codes : Codes) (h : Store) (top : ℕ) (a : Value) (i : ℕ) (x : Content) (c : Cell_of) : Type 0 where
  pub word : ℕ
  pub is_word : x ≡ Word word
  pub there : FoundAt codes h top (cell_of_byte a i) (Word (word_sum word (byte_distance i))) c

pub byte_cell : (codes : Codes) (h : Store) (top : ℕ) (a : Value) (i : ℕ) (x : Content) (c : Cell_of) → Fits codes h top → Applies codes h.bases a x → cell_at h.mem (cell_of_byte a i) ≡ Some c
    → ByteCell codes h top a i x c
byte_cell codes h top (address o k) i x c f st e = grind (arith, set_word, found_at, byte_address)
byte_cell codes h top _ i x c f st e = absurd (let z : None ≡ Some c = e in cc)

variable_there : (codes : Codes) (h : Store) (top p : ℕ) (a : Value) (c : Cell_of) (g : FoundAt codes h top a (Word p) c) → variable_at top h.cells p ≡ Some g.cell.content
variable_there codes h top p a c g =
    ap (λ y. variable_at top h.cells y) (word_number p (g.base + g.offset) g.word)
    ∙ variable_found top (g.base + g.offset) h.cells g.cell.content g.cell.low g.cell.there

place_low : (i : ℕ) → byte_place i < 4
place_low i = omega arith

-- a byte that is read
pub record ByteRead (top : ℕ) (h : Store) (x y : Content) (b : ℕ) : Type 0 where
  pub word : ℕ
  pub index : ℕ
  pub is_word : x ≡ Word word
  pub is_index : y ≡ Word index
  pub reads : byte_at top h.cells word index ≡ Some b

pub read_byte_at : (codes : Codes) (h : Store) (top : ℕ) (a v : Value) (x y : Content) (b : ℕ) → Fits codes h top → Applies codes h.bases a x → Applies codes h.bases v y
    → read_byte h.mem a v ≡ Some b → ByteRead top h x y b
read_byte_at codes h top a (number i) x y b f st sv e =
    by_option (λ d. option_and_then (λ c. value.byte_in c (byte_place i)) d ≡ Some b → ByteRead top h x y b) (cell_at h.mem (cell_of_byte a i)) (λ _ e. absurd (cc)) (λ c ed e.
    let g = byte_cell codes h top a i x c f st ed in
    record {
      word = g.word;
      index = i;
      is_word = g.is_word;
      is_index = sv;
      reads = ap (λ z. option_and_then (λ content. byte_in content (byte_place i)) z) (variable_there codes h top (word_sum g.word (byte_distance i)) (cell_of_byte a i) c g.there)
          ∙ byte_same codes h.bases c g.there.cell.content (byte_place i) b g.there.cell.stands (place_low i) e;
    }) e
read_byte_at codes h top a _ x y b f st sv e = absurd (let z : None ≡ Some b = e in cc)

-- a byte that is set
pub record ByteSet (codes : Codes) (top : ℕ) (h : Store) (x y z : Content) (mem1 : Memory) : Type 0 where
  pub word : ℕ
  pub index : ℕ
  pub byte : ℕ
  pub is_word : x ≡ Word word
  pub is_index : y ≡ Word index
  pub is_byte : z ≡ Word byte
  pub content : Content
  pub sets : word_with_byte_at top h.cells word index byte ≡ Some content
  pub was : Content
  pub there : h.cells (word_sum word (byte_distance index)) ≡ Held Variable was
  pub fits : Fits codes (put h mem1 (word_sum word (byte_distance index)) content) top
  pub moved : (t : ℕ) → Moved t h (put h mem1 (word_sum word (byte_distance index)) content)

pub byte_low : (b : ℕ) → b % 256 < 2 ^ 8
byte_low b = omega arith

pub write_byte_at : (codes : Codes) (h : Store) (top : ℕ) (a v u : Value) (x y z : Content) (mem1 : Memory) → ((p : ℕ) (k : Content) → h.cells p ≡ Held Variable k → AreBytes k)
    → Fits codes h top → Applies codes h.bases a x → Applies codes h.bases v y → Applies codes h.bases u z → write_byte h.mem a v u ≡ Some mem1 → ByteSet codes top h x y z mem1
write_byte_at codes h top a (number i) (number b) x y z mem1 are f st sv su e = by_cell (cell_at h.mem (cell_of_byte a i)) refl e
  where
    by_byte : (c : Cell_of) → cell_at h.mem (cell_of_byte a i) ≡ Some c → (d : Option Cell_of) → value.with_byte c (byte_place i) (b % 256) ≡ d
        → option_and_then (λ d. with_cell h.mem (cell_of_byte a i) d) d ≡ Some mem1 → ByteSet codes top h x y z mem1
    by_byte c ec None ed e = absurd (cc)
    by_byte c ec (Some d) ed e =
        let g = byte_cell codes h top a i x c f st ec in
        let p = word_sum g.word (byte_distance i) in
        let old = g.there.cell.content in
        let same : p ≡ g.there.base + g.there.offset = word_number p (g.there.base + g.there.offset) g.there.word in
        let w = write_at codes h top (cell_of_byte a i) (Word p) d mem1 f (stands_there g) e in
        let same1 : p ≡ w.base + w.offset = word_number p (w.base + w.offset) w.word in
        let here : h.cells p ≡ Held Variable old = ap h.cells same ∙ g.there.cell.there in
        let new = with_byte old (byte_place i) (b % 256) in
        let stands = byte_set codes h.bases c old (byte_place i) (b % 256) d g.there.cell.stands (are p old here) (byte_low b) ed in
        record {
          word = g.word;
          index = i;
          byte = b;
          is_word = g.is_word;
          is_index = sv;
          is_byte = su;
          content = new;
          sets = ap (λ q. option_map (λ content. with_byte content (byte_place i) (b % 256)) q) (variable_there codes h top p (cell_of_byte a i) c g.there);
          was = old;
          there = here;
          fits = subst (λ q. Fits codes (put h mem1 q new) top) (sym same1) (w.cell.fits new stands);
          moved = λ t. subst (λ q. Moved t h (put h mem1 q new)) (sym same1) (w.cell.moved new t);
        }
      where
        stands_there : (g : ByteCell codes h top a i x c) → Applies codes h.bases (cell_of_byte a i) (Word (word_sum g.word (byte_distance i)))
        stands_there g = by_address a st g.there.address_is g.word g.is_word
          where
            by_address : (a : Value) → Applies codes h.bases a x → cell_of_byte a i ≡ address g.there.object g.there.offset → (w : ℕ) → x ≡ Word w
                → Applies codes h.bases (cell_of_byte a i) (Word (word_sum w (byte_distance i)))
            by_address (address o k) st e w ew = byte_address codes h.bases (address o k) w i (subst (λ y. Applies codes h.bases (address o k) y) ew st) o k refl
            by_address _ st e w ew = absurd (cc)

    by_cell : (d : Option Cell_of) → cell_at h.mem (cell_of_byte a i) ≡ d
        → option_and_then (λ c. option_and_then (λ d. with_cell h.mem (cell_of_byte a i) d) (value.with_byte c (byte_place i) (b % 256))) d ≡ Some mem1 → ByteSet codes top h x y z mem1
    by_cell None ed e = absurd (cc)
    by_cell (Some c) ed e = by_byte c ed (value.with_byte c (byte_place i) (b % 256)) refl e
write_byte_at codes h top a v u x y z mem1 are f st sv su e = absurd (let q : None ≡ Some mem1 = e in cc)
