-- The store before START is called fits what lasts.
use Rattle.bk_simulation.proofs.Pieces.{either_way, by_option, Codes, BaseOf, Alive, IsCell, Fits, get_at, StandsCell, alive_is, cell_in, object_there, get_set, get_replicate, AreBytes, AllBytes, Setting, untouched, ◌≡◌, ◌≢◌, ℕ, zero, suc, ◌+◌, ◌-◌, ◌<◌, ◌≤◌, ◌==◌, nat_le, Bool, true, false, List, [], ◌∷◌, ◌++◌, length, map, fold, replicate, Option, Some, None, refl, sym, ap, ◌∙◌, subst, if◌then◌else◌, arith, ◌⊎◌, ⊎_elim, inl, inr, slice_get, eq-eqb, length-append, slice_set, option_and_then, option_map_or, length-map, slice_get_within, FRAME_WORDS, GLOBAL_NUMBER, Unset, Word, Variable, Link, Cell, Free, Held, content_of, Content, global_place, Placed, Placement, Program, Datum, is_in, datum_word, GlobalSetting, entry_setting, stmt_globals, globals_of, all_data, all_globals, unset_cells, with_global, first_cells, chosen-true, chosen-false, number, address, procedure, routine, unset, holds, places, value_in, stop, rdch, wrch, newline, writes, writen, writed, getbyte, putbyte, writef, Object, living, cells_at, Procedure, Lasting, global_vector, words, code, library_cells, set_global, procedures_set, global_cells, entry_cells, object_of, objects_from, first_memory, IsWellPlaced, AreFaultless, GlobalEntry, Stmt, Globals, and_from, and_right, le-leb, length-replicate, length-set, lt-leb, lt-ltb, library_globals, InRange, written}
use Rattle.bk_ocode.specs.ProgramStart.{is_global}
use Rattle.bk_meaning.specs.Values as value
use Rattle.bk_simulation.proofs.StartRuns.{FirstStore}
use Rattle.bk_simulation.proofs.ProgramEnds.{NoStart, HasStart}

-- ---- The store before START is called has what lasts.

-- the words of the library's routines
abbrev pub library_word : value.Routine → ℕ
library_word stop = 1016
library_word rdch = 1018
library_word wrch = 1020
library_word newline = 1022
library_word writes = 1024
library_word writen = 1026
library_word writed = 1028
library_word getbyte = 1030
library_word putbyte = 1032
library_word writef = 4

-- what the globals are set to, in order
abbrev pub setting_of : Codes → ℕ → Option ℕ → List GlobalSetting
setting_of codes n None = []
setting_of codes n (Some g) = record { global = g; value = codes.procedure n } ∷ []

abbrev pub settings : Codes → ℕ → List Lasting → List GlobalSetting
settings codes n [] = []
settings codes n (code f ∷ rest) = setting_of codes n f.global ++ settings codes (suc n) rest
settings codes n (global_vector ∷ rest) = settings codes (suc n) rest
settings codes n (words ws ∷ rest) = settings codes (suc n) rest

-- a datum of the program has this place and these words
pub record InData (program : Program) (base : ℕ) (ws : List ℕ) : Type 0 where
  pub number : ℕ
  pub datum : Datum
  pub at : slice_get (all_data program.sections) number ≡ Some datum
  pub placed : datum.place ≡ base
  pub is : datum.words ≡ ws

abbrev pub HoldsEntry : Program → ℕ → Codes → Option ℕ → ℕ → ℕ → Type 0
HoldsEntry program first codes None o b = InData program b (codes.procedure o ∷ [])
HoldsEntry program first codes (Some g) o b = (16 ≤ b) × (b ≤ first)

abbrev pub HoldsOne : Program → ℕ → Codes → Lasting → ℕ → ℕ → Type 0
HoldsOne program first codes global_vector o b = (o ≡ 0) × (b ≡ 16)
HoldsOne program first codes (words ws) o b = InData program b ws
HoldsOne program first codes (code f) o b = HoldsEntry program first codes f.global o b

abbrev pub HasEntry : Option ℕ → Type 0
HasEntry None = Unit {0}
HasEntry (Some g) = ⊥

abbrev pub HasWords : Option Lasting → Type 0
HasWords (Some (words (w ∷ ws))) = Unit {0}
HasWords (Some (code f)) = HasEntry f.global
HasWords _ = ⊥

abbrev pub IsSized : List Lasting → ℕ → Type 0
IsSized p o = HasWords (slice_get p o)

pub record HoldsLasting (program : Program) (first : ℕ) (codes : Codes) (lasting : List ℕ) (p : List Lasting) : Type 0 where
  pub long : length lasting ≡ length p
  pub each : (o b : ℕ) (x : Lasting) → slice_get p o ≡ Some x → BaseOf lasting o b → HoldsOne program first codes x o b
  pub globals : all_globals program.sections ≡ settings codes 0 p
  pub apart : (o o1 b : ℕ) → BaseOf lasting o b → BaseOf lasting o1 b → IsSized p o → IsSized p o1 → o ≡ o1

-- ---- settings of globals that there are

abbrev pub AreUpTo : ℕ → List GlobalSetting → Type 0
AreUpTo top [] = Unit {0}
AreUpTo top (x ∷ rest) = (x.global ≤ top) × AreUpTo top rest

pub up_to_append : (top : ℕ) (a b : List GlobalSetting) → AreUpTo top a → AreUpTo top b → AreUpTo top (a ++ b)
up_to_append top [] b p q = q
up_to_append top (x ∷ a) b p q = (p.0, up_to_append top a b p.1 q)

pub library_up_to : (top : ℕ) → 11 ≤ top → AreUpTo top library_globals
library_up_to top le = (omega arith, (omega arith, (omega arith, (omega arith, (omega arith, (omega arith, (omega arith, (omega arith, (omega arith, (omega arith, tt))))))))))

entries_up_to : (at_places : Placement) (entries : List GlobalEntry) → ((k : ℕ) (e : GlobalEntry) → slice_get entries k ≡ Some e → e.number ≤ GLOBAL_NUMBER) → AreUpTo GLOBAL_NUMBER (map (entry_setting at_places) entries)
entries_up_to at_places [] are = tt
entries_up_to at_places (e ∷ entries) are = (are 0 e refl, entries_up_to at_places entries (λ k f at. are (suc k) f at))

stmt_up_to : (at_places : Placement) (s : Stmt) → InRange s → AreUpTo GLOBAL_NUMBER (stmt_globals at_places s)
stmt_up_to at_places (Globals entries) range = entries_up_to at_places entries (λ k e at. (range.in_range k e at).0)
stmt_up_to at_places s range = tt

globals_up_to : (at_places : Placement) (stmts : List Stmt) → ((k : ℕ) (s : Stmt) → slice_get stmts k ≡ Some s → InRange s) → AreUpTo GLOBAL_NUMBER (globals_of at_places stmts)
globals_up_to at_places [] are = tt
globals_up_to at_places (s ∷ rest) are = up_to_append GLOBAL_NUMBER (stmt_globals at_places s) (globals_of at_places rest) (stmt_up_to at_places s (are 0 s refl)) (globals_up_to at_places rest (λ k t at. are (suc k) t at))

pub all_up_to : (sections : List Placed) → ((i : ℕ) (own : Placed) → slice_get sections i ≡ Some own → AreFaultless own.stmts) → AreUpTo GLOBAL_NUMBER (all_globals sections)
all_up_to [] are = tt
all_up_to (own ∷ others) are =
    up_to_append GLOBAL_NUMBER (globals_of own.places own.stmts) (all_globals others) (globals_up_to own.places own.stmts (are 0 own refl).in_range) (all_up_to others (λ i o at. are (suc i) o at))

pub fold_kept : (top : ℕ) (cells : ℕ → Cell) (given : List GlobalSetting) (place : ℕ) → AreUpTo top given → global_place top < place → fold with_global cells given place ≡ cells place
fold_kept top cells [] place low above = refl
fold_kept top cells (x ∷ rest) place low above =
    let ne : place ≢ global_place x.global = omega (arith, low.0) in
    fold_kept top (with_global cells x) rest place low.1 above ∙ untouched cells (global_place x.global) (Held Variable (Word x.value)) place ne

pub fold_append : (cells : ℕ → Cell) (a b : List GlobalSetting) → fold with_global cells (a ++ b) ≡ fold with_global (fold with_global cells a) b
fold_append cells [] b = refl
fold_append cells (x ∷ a) b = fold_append (with_global cells x) a b

-- ---- what a cell of the meaning is, where the run begins

-- what holds of the globals holds where procedures are set among them
procedures_keep : (P : List value.Cell → Type 0) → ((n g : ℕ) (vs : List value.Cell) → P vs → P (slice_set vs g (holds (procedure n)))) → (n : ℕ) (xs : List Lasting) (vs : List value.Cell) → P vs → P (procedures_set n xs vs)
procedures_keep P set n [] vs h = h
procedures_keep P set n (global_vector ∷ rest) vs h = procedures_keep P set (suc n) rest vs h
procedures_keep P set n (words ws ∷ rest) vs h = procedures_keep P set (suc n) rest vs h
procedures_keep P set n (code f ∷ rest) vs h = procedures_keep P set (suc n) rest (set_global f.global n vs) (by_option (λ o. P (set_global o n vs)) f.global (λ _. h) (λ g _. set n g vs h))

module _ (codes : Codes) where
  abbrev pub CellIs : value.Cell → Cell → Type 0
  CellIs (holds (number w)) x = x ≡ Held Variable (Word w)
  CellIs (holds (procedure k)) x = x ≡ Held Variable (Word (codes.procedure k))
  CellIs (holds (routine r)) x = x ≡ Held Variable (Word (codes.routine r))
  CellIs (holds unset) x = x ≡ Held Variable Unset
  CellIs _ x = ⊥

  pub cell_stands : (bases : List ℕ) (c : value.Cell) (x : Cell) → CellIs c x → StandsCell codes bases c (content_of x)
  cell_stands bases (holds unset) x h = tt
  cell_stands bases (holds (address o i)) x h = absurd h
  cell_stands bases (places a b c d) x h = absurd h
  cell_stands bases _ x h = ap content_of h

  pub cell_variable : (c : value.Cell) (x : Cell) → CellIs c x → (k : Content) × (x ≡ Held Variable k)
  cell_variable (holds (number w)) x h = (Word w, h)
  cell_variable (holds (procedure k)) x h = (Word (codes.procedure k), h)
  cell_variable (holds (routine r)) x h = (Word (codes.routine r), h)
  cell_variable (holds unset) x h = (Unset, h)
  cell_variable _ x h = absurd h

  -- ---- the globals

  record Holding (vs : List value.Cell) (cells : ℕ → Cell) : Type 0 where
    pub each : (i : ℕ) (c : value.Cell) → slice_get vs i ≡ Some c → CellIs c (cells (16 + i))

  one_set : (n i : ℕ) (vs : List value.Cell) (cells : ℕ → Cell) → Holding vs cells → Holding (slice_set vs i (holds (procedure n))) (with_global cells (record { global = i; value = codes.procedure n }))
  one_set n i vs cells h = record {
    each = λ j c e. ⊎_elim
        (λ (x : (j ≡ i) × (c ≡ holds (procedure n))). subst (λ y. CellIs y (with_global cells (record { global = i; value = codes.procedure n }) (16 + j))) (sym x.1)
        (subst (λ y. with_global cells (record { global = i; value = codes.procedure n }) (16 + y) ≡ Held Variable (Word (codes.procedure n))) (sym x.0) (written cells (global_place i) (Held Variable (Word (codes.procedure n))))))
        (λ (x : (j ≢ i) × (slice_get vs j ≡ Some c)). let ne : j ≢ i = x.0 in let ne1 : 16 + j ≢ global_place i = omega arith in
        subst (λ y. CellIs c y) (sym (untouched cells (global_place i) (Held Variable (Word (codes.procedure n))) (16 + j) ne1)) (h.each j c x.1))
        (get_set vs i j (holds (procedure n)) c e);
  }

  all_set : (n : ℕ) (xs : List Lasting) (vs : List value.Cell) (cells : ℕ → Cell) → Holding vs cells → Holding (procedures_set n xs vs) (fold with_global cells (settings codes n xs))
  all_set n [] vs cells h = h
  all_set n (global_vector ∷ rest) vs cells h = all_set (suc n) rest vs cells h
  all_set n (words ws ∷ rest) vs cells h = all_set (suc n) rest vs cells h
  all_set n (code f ∷ rest) vs cells h = by_option (λ o. Holding (procedures_set (suc n) rest (set_global o n vs)) (fold with_global cells (setting_of codes n o ++ settings codes (suc n) rest))) f.global
      (λ _. all_set (suc n) rest vs cells h)
      (λ g _. all_set (suc n) rest (slice_set vs g (holds (procedure n))) (with_global cells (record { global = g; value = codes.procedure n })) (one_set n g vs cells h))

  routine_here : (r : value.Routine) (c : value.Cell) (x : Cell) → codes.routine r ≡ library_word r → Some (holds (routine r)) ≡ Some c → x ≡ Held Variable (Word (library_word r)) → CellIs c x
  routine_here r c x known e h = subst (λ y. CellIs y x) (let z : holds (routine r) ≡ c = cc in z) (h ∙ ap (λ w. Held Variable (Word w)) (sym known))

  unset_here : (c : value.Cell) (x : Cell) → c ≡ holds unset → x ≡ Held Variable Unset → CellIs c x
  unset_here c x e h = subst (λ y. CellIs y x) (sym e) h

  module _ (known : (r : value.Routine) → codes.routine r ≡ library_word r) (base : ℕ → Cell) (low : (i : ℕ) → i < 1000 → base (16 + i) ≡ Held Variable Unset) where
    unset_first : (c : value.Cell) → Some (holds unset) ≡ Some c → c ≡ holds unset
    unset_first c e = cc

    lib_cell : (i : ℕ) (c : value.Cell) → slice_get (library_cells ++ replicate 988 (holds unset)) i ≡ Some c → CellIs c (fold with_global base library_globals (16 + i))
    lib_cell zero c h = unset_here c _ (unset_first c h) (low 0 (omega arith))
    lib_cell (suc zero) c h = unset_here c _ (unset_first c h) (low 1 (omega arith))
    lib_cell (suc (suc zero)) c h = routine_here stop c _ (known stop) h refl
    lib_cell (suc (suc (suc zero))) c h = routine_here rdch c _ (known rdch) h refl
    lib_cell (suc (suc (suc (suc zero)))) c h = routine_here wrch c _ (known wrch) h refl
    lib_cell (suc (suc (suc (suc (suc zero))))) c h = routine_here newline c _ (known newline) h refl
    lib_cell (suc (suc (suc (suc (suc (suc zero)))))) c h = routine_here writes c _ (known writes) h refl
    lib_cell (suc (suc (suc (suc (suc (suc (suc zero))))))) c h = routine_here writen c _ (known writen) h refl
    lib_cell (suc (suc (suc (suc (suc (suc (suc (suc zero)))))))) c h = routine_here writed c _ (known writed) h refl
    lib_cell (suc (suc (suc (suc (suc (suc (suc (suc (suc zero))))))))) c h = routine_here getbyte c _ (known getbyte) h refl
    lib_cell (suc (suc (suc (suc (suc (suc (suc (suc (suc (suc zero)))))))))) c h = routine_here putbyte c _ (known putbyte) h refl
    lib_cell (suc (suc (suc (suc (suc (suc (suc (suc (suc (suc (suc zero))))))))))) c h = routine_here writef c _ (known writef) h refl
    lib_cell (suc (suc (suc (suc (suc (suc (suc (suc (suc (suc (suc (suc i)))))))))))) c h =
        let q = get_replicate 988 i (holds unset) c h in
        let lt : i < 988 = q.1 in
        let e : 12 + i ≡ suc (suc (suc (suc (suc (suc (suc (suc (suc (suc (suc (suc i))))))))))) = omega arith in
        subst (λ j. CellIs c (fold with_global base library_globals (16 + j))) e (unset_here c _ q.0 (fold_kept 11 base library_globals (16 + (12 + i)) (library_up_to 11 (omega arith)) (omega arith) ∙ low (12 + i) (omega arith)))

    pub globals_hold : (p : List Lasting) (i : ℕ) (c : value.Cell) → slice_get (global_cells p) i ≡ Some c → CellIs c (fold with_global (fold with_global base library_globals) (settings codes 0 p) (16 + i))
    globals_hold p i c h = (all_set 0 p (library_cells ++ replicate 988 (holds unset)) (fold with_global base library_globals) (record { each = lib_cell })).each i c h

  pub globals_long : (p : List Lasting) → length (global_cells p) ≡ 1000
  globals_long p =
      procedures_keep (λ vs. length vs ≡ length (library_cells ++ replicate 988 (holds unset))) (λ n g vs h. length-set vs g (holds (procedure n)) ∙ h) 0 p (library_cells ++ replicate 988 (holds unset)) refl ∙ length-append library_cells (replicate 988 (holds unset)) ∙ ap (λ n. 12 + n) (length-replicate 988 (holds unset))

-- ---- tests

-- ---- the words of data

datum_word_at : (ds : List Datum) (j : ℕ) (d : Datum) (place : ℕ) → slice_get ds j ≡ Some d → is_in place d ≡ true → ((k : ℕ) (e : Datum) → slice_get ds k ≡ Some e → is_in place e ≡ true → k ≡ j)
    → datum_word ds place ≡ slice_get d.words (place - d.place)
datum_word_at [] j d place h is only = absurd (let z : None ≡ Some d = h in cc)
datum_word_at (e ∷ ds) zero d place h is only = grind (arith, chosen-true, is, words)
datum_word_at (e ∷ ds) (suc j) d place h is only =
    by_test (is_in place e) refl (datum_word_at ds j d place h is (λ k x hk ik. let z : suc k ≡ suc j = only (suc k) x hk ik in omega arith)) (λ t. only 0 e refl t)
  where
    by_test : (b : Bool) → is_in place e ≡ b → datum_word ds place ≡ slice_get d.words (place - d.place) → (is_in place e ≡ true → 0 ≡ suc j)
        → (if b then slice_get e.words (place - e.place) else datum_word ds place) ≡ slice_get d.words (place - d.place)
    by_test true t r n = let z : 0 ≡ suc j = n t in absurd (omega arith)
    by_test false t r n = r

pub in_datum : (d : Datum) (i : ℕ) → i < length d.words → is_in (d.place + i) d ≡ true
in_datum d i lt = grind (arith, and_from, length, words, le-leb, lt-ltb)

module _ (program : Program) (first : ℕ) (well : IsWellPlaced program first FRAME_WORDS) where
  abbrev given : List Datum
  given = all_data program.sections

  abbrev base : ℕ → Cell
  base = unset_cells given first program.home

  above_same : (place : ℕ) → global_place GLOBAL_NUMBER < place → first_cells program first place ≡ base place
  above_same place lt = fold_kept GLOBAL_NUMBER base (library_globals ++ all_globals program.sections) place (up_to_append GLOBAL_NUMBER library_globals (all_globals program.sections) (library_up_to GLOBAL_NUMBER (omega arith)) (all_up_to program.sections well.is_program.accepted)) lt

  pub link_first : first_cells program first first ≡ Held Link (Word first)
  link_first = let lt = well.is_program.above_globals in above_same first lt ∙ chosen-true (first == first) _ _ (eq-eqb first first refl)

  pub link_next : first_cells program first (suc first) ≡ Held Link (Word program.home)
  link_next = grind (arith, above_same, chosen-false, chosen-true, eq-eqb)

  base_low : (place : ℕ) → place < first → base place ≡ (if is_global place then Held Variable Unset else option_map_or (λ w. Held Variable (Word w)) (datum_word given place) Free)
  base_low place lt = grind (arith, chosen-false)

  pub global_unset : (i : ℕ) → i < 1000 → base (16 + i) ≡ Held Variable Unset
  global_unset i lt = grind (arith, base_low, chosen-true, and_from, le-leb)

  pub datum_cell : (j : ℕ) (d : Datum) (i w : ℕ) → slice_get given j ≡ Some d → slice_get d.words i ≡ Some w → first_cells program first (d.place + i) ≡ Held Variable (Word w)
  datum_cell j d i w at is =
      let li : i < length d.words = slice_get_within d.words i w is in
      let here = in_datum d i li in
      let low = well.data_low j d at in
      let above : global_place GLOBAL_NUMBER < d.place = low.0 in
      let under : d.place + length d.words ≤ first = low.1 in
      let word : datum_word given (d.place + i) ≡ Some w =
      datum_word_at given j d (d.place + i) at here (λ k e ek ik. well.data_apart k j (d.place + i) e d ek at ik here) ∙ ap (λ y. slice_get d.words y) (let e : d.place + i - d.place ≡ i = omega arith in e) ∙ is in
      above_same (d.place + i) (omega arith) ∙ base_low (d.place + i) (omega arith)
      ∙ chosen-false (is_global (d.place + i)) _ _ (and_right (nat_le (global_place 0) (d.place + i)) (nat_le (d.place + i) (global_place GLOBAL_NUMBER)) (lt-leb (d.place + i) (global_place GLOBAL_NUMBER) (omega arith)))
      ∙ ap (λ o. option_map_or (λ w. Held Variable (Word w)) o Free) word

  -- ---- bytes

  set_bytes : (settings : List GlobalSetting) (cells : ℕ → Cell) → AllBytes cells → AllBytes (fold with_global cells settings)
  set_bytes [] cells all = all
  set_bytes (x ∷ rest) cells all =
      set_bytes rest (with_global cells x) (λ a. either_way (λ c. AreBytes (content_of c)) (a == global_place x.global) (Held Variable (Word x.value)) (cells a) tt (all a))

  pub first_bytes_are : AllBytes (first_cells program first)
  first_bytes_are = set_bytes (library_globals ++ all_globals program.sections) base (λ a.
      let P : Cell → Type 0 = λ c. AreBytes (content_of c) in
      either_way P (a == first) (Held Link (Word first)) _ tt (either_way P (a == suc first) (Held Link (Word program.home)) _ tt (either_way P (is_global a) (Held Variable Unset) _ tt
      (by_option (λ o. P (option_map_or (λ w. Held Variable (Word w)) o Free)) (datum_word given a) (λ _. tt) (λ w _. tt)))))

-- ---- the objects that last

abbrev one_cells : List Lasting → ℕ → Lasting → List value.Cell
one_cells p n global_vector = global_cells p
one_cells p n (words ws) = map (λ w. holds (number w)) ws
one_cells p n (code f) = entry_cells f.global n

object_is : (p : List Lasting) (n : ℕ) (x : Lasting) → object_of p n x ≡ living (one_cells p n x)
object_is p n global_vector = refl
object_is p n _ = refl

-- an object of the first memory
record Lasts (p : List Lasting) (n : ℕ) (xs : List Lasting) (o : ℕ) (y : Object) : Type 0 where
  pub what : Lasting
  pub at : slice_get xs o ≡ Some what
  pub is : y ≡ object_of p (n + o) what

object_at : (p : List Lasting) (n : ℕ) (xs : List Lasting) (o : ℕ) (y : Object) → slice_get (objects_from p n xs) o ≡ Some y → Lasts p n xs o y
object_at p n [] o y h = absurd (let z : None ≡ Some y = h in cc)
object_at p n (x ∷ xs) zero y h =
    let e : object_of p n x ≡ y = (let z : Some (object_of p n x) ≡ Some y = h in cc) in
    record { what = x; at = refl; is = sym e ∙ ap (λ k. object_of p k x) (let q : n ≡ n + 0 = omega arith in q) }
object_at p n (x ∷ xs) (suc o) y h =
    let r = object_at p (suc n) xs o y h in
    record { what = r.what; at = r.at; is = r.is ∙ ap (λ k. object_of p k r.what) (let q : suc n + o ≡ n + suc o = omega arith in q) }

objects_long : (p : List Lasting) (n : ℕ) (xs : List Lasting) → length (objects_from p n xs) ≡ length xs
objects_long p n [] = refl
objects_long p n (x ∷ xs) = ap (λ k. suc k) (objects_long p (suc n) xs)

record Cells (p : List Lasting) (o : ℕ) (cells : List value.Cell) : Type 0 where
  pub what : Lasting
  pub at : slice_get p o ≡ Some what
  pub is : cells ≡ one_cells p o what

cells_last : (p : List Lasting) (o : ℕ) (cells : List value.Cell) → cells_at (first_memory p) o ≡ Some cells → Cells p o cells
cells_last p o cells h =
    let r = object_at p 0 p o (living cells) (object_there (first_memory p) o cells h) in
    let e : living cells ≡ living (one_cells p o r.what) = r.is ∙ ap (λ k. object_of p k r.what) (let q : 0 + o ≡ o = omega arith in q) ∙ object_is p o r.what in
    record { what = r.what; at = r.at; is = cc }

number_at : (ws : List ℕ) (i : ℕ) (c : value.Cell) → slice_get (map (λ w. holds (number w)) ws) i ≡ Some c → (w : ℕ) × (slice_get ws i ≡ Some w) × (c ≡ holds (number w))
number_at [] i c h = absurd (let z : None ≡ Some c = h in cc)
number_at (w ∷ ws) zero c h = (w, refl, (let z : Some (holds (number w)) ≡ Some c = h in cc))
number_at (w ∷ ws) (suc i) c h = number_at ws i c h

-- where an object lies
data Region (program : Program) (first : ℕ) (p : List Lasting) (o n b : ℕ) : Type 0 where
  vector : o ≡ 0 → b ≡ 16 → n ≡ 1000 → Region program first p o n b
  datum : (j : ℕ) (d : Datum) → slice_get (all_data program.sections) j ≡ Some d → d.place ≡ b → length d.words ≡ n → (0 < n → IsSized p o) → Region program first p o n b
  nothing : n ≡ 0 → 16 ≤ b → b ≤ first → Region program first p o n b

module _ (program : Program) (first : ℕ) (well : IsWellPlaced program first FRAME_WORDS) (codes : Codes) (lasting : List ℕ) (p : List Lasting) (lasts : HoldsLasting program first codes lasting p)
    (known : (r : value.Routine) → codes.routine r ≡ library_word r) where
  region_of : (o n b : ℕ) → Alive (first_memory p) o n → BaseOf lasting o b → Region program first p o n b
  region_of o n b a e =
      let l = alive_is (cells_at (first_memory p) o) n a in
      let c = cells_last p o l.cells l.is in
      by_one c.what c.at (lasts.each o b c.what c.at e) (ap length (sym c.is) ∙ l.long)
    where
      sized : (ws : List ℕ) → slice_get p o ≡ Some (words ws) → 0 < length ws → IsSized p o
      sized [] at lt = absurd (omega arith)
      sized (w ∷ ws) at lt = subst HasWords (sym at) tt

      by_entry : (f : Procedure) (g : Option ℕ) → f.global ≡ g → slice_get p o ≡ Some (code f) → HoldsEntry program first codes g o b → length (entry_cells g o) ≡ n → Region program first p o n b
      by_entry f None eg at h e = datum h.number h.datum h.at h.placed (ap length h.is ∙ e) (λ lt. subst HasWords (sym at) (subst HasEntry (sym eg) tt))
      by_entry f (Some g) eg at h e = nothing (sym e) h.0 h.1

      by_one : (x : Lasting) → slice_get p o ≡ Some x → HoldsOne program first codes x o b → length (one_cells p o x) ≡ n → Region program first p o n b
      by_one global_vector at h e = vector h.0 h.1 (sym e ∙ globals_long codes p)
      by_one (words ws) at h e = let lw : length ws ≡ n = sym (length-map ws (λ w. holds (number w))) ∙ e in datum h.number h.datum h.at h.placed (ap length h.is ∙ lw) (λ lt. sized ws at (omega arith))
      by_one (code f) at h e = by_entry f f.global refl at h e

  cell_is : (o b i : ℕ) (c : value.Cell) → IsCell (first_memory p) o i c → BaseOf lasting o b → CellIs codes c (first_cells program first (b + i))
  cell_is o b i c h e =
      let x = cell_in (cells_at (first_memory p) o) i c h in
      let l = cells_last p o x.0 x.1 in
      by_one l.what (lasts.each o b l.what l.at e) (ap (λ y. slice_get y i) (sym l.is) ∙ x.2)
    where
      only_one : (k : ℕ) → slice_get (holds (procedure o) ∷ []) k ≡ Some c → (k ≡ 0 → first_cells program first (b + i) ≡ Held Variable (Word (codes.procedure o))) → CellIs codes c (first_cells program first (b + i))
      only_one zero e go = let z : holds (procedure o) ≡ c = (let q : Some (holds (procedure o)) ≡ Some c = e in cc) in subst (λ y. CellIs codes y (first_cells program first (b + i))) z (go refl)
      only_one (suc k) e go = absurd (let z : None ≡ Some c = e in cc)

      by_datum : (ws : List ℕ) (w : ℕ) → InData program b ws → slice_get ws i ≡ Some w → first_cells program first (b + i) ≡ Held Variable (Word w)
      by_datum ws w h is = ap (λ y. first_cells program first (y + i)) (sym h.placed) ∙ datum_cell program first well h.number h.datum i w h.at (ap (λ y. slice_get y i) h.is ∙ is)

      by_entry : (g : Option ℕ) → HoldsEntry program first codes g o b → slice_get (entry_cells g o) i ≡ Some c → CellIs codes c (first_cells program first (b + i))
      by_entry None h e = only_one i e (λ (is : i ≡ 0). by_datum (codes.procedure o ∷ []) (codes.procedure o) h (ap (λ y. slice_get (codes.procedure o ∷ []) y) is))
      by_entry (Some g) h e = absurd (let z : None ≡ Some c = e in cc)

      by_one : (x : Lasting) → HoldsOne program first codes x o b → slice_get (one_cells p o x) i ≡ Some c → CellIs codes c (first_cells program first (b + i))
      by_one global_vector h e =
          subst (λ y. CellIs codes c y)
          (sym (ap (λ y. first_cells program first (y + i)) h.1
          ∙ ap (λ (f : ℕ → Cell). f (16 + i)) (fold_append (unset_cells (all_data program.sections) first program.home) library_globals (all_globals program.sections))
          ∙ ap (λ s. fold with_global (fold with_global (unset_cells (all_data program.sections) first program.home) library_globals) s (16 + i)) lasts.globals))
          (globals_hold codes known (unset_cells (all_data program.sections) first program.home) (λ k lt. global_unset program first well k lt) p i c e)
      by_one (words ws) h e = let w = number_at ws i c e in subst (λ y. CellIs codes y (first_cells program first (b + i))) (sym w.2) (by_datum ws w.0 h w.1)
      by_one (code f) h e = by_entry f.global h e

  below_of : (o n b : ℕ) → Region program first p o n b → (16 ≤ b) × (b + n ≤ first)
  below_of o n b (vector eo eb en) = let lt = well.is_program.above_globals in (omega arith, omega arith)
  below_of o n b (datum j d at eb en sized) = let low = well.data_low j d at in let l0 = low.0 in let l1 = low.1 in (omega arith, omega arith)
  below_of o n b (nothing en l0 l1) = (l0, omega arith)

  apart_of : (o n b i o1 n1 b1 i1 : ℕ) → BaseOf lasting o b → BaseOf lasting o1 b1 → Region program first p o n b → Region program first p o1 n1 b1 → i < n → i1 < n1 → b + i ≡ b1 + i1 → o ≡ o1
  apart_of o n b i o1 n1 b1 i1 e e1 (vector eo eb en) (vector eo1 eb1 en1) lt lt1 same = eo ∙ sym eo1
  apart_of o n b i o1 n1 b1 i1 e e1 (vector eo eb en) (datum j d at ed el sized) lt lt1 same = let low = (well.data_low j d at).0 in absurd (omega arith)
  apart_of o n b i o1 n1 b1 i1 e e1 (datum j d at ed el sized) (vector eo1 eb1 en1) lt lt1 same = let low = (well.data_low j d at).0 in absurd (omega arith)
  apart_of o n b i o1 n1 b1 i1 e e1 (datum j d at ed el sized) (datum j1 d1 at1 ed1 el1 sized1) lt lt1 same =
      let in0 : is_in (b + i) d ≡ true = subst (λ y. is_in (y + i) d ≡ true) ed (in_datum d i (omega arith)) in
      let in1 : is_in (b1 + i1) d1 ≡ true = subst (λ y. is_in (y + i1) d1 ≡ true) ed1 (in_datum d1 i1 (omega arith)) in
      let ej : j ≡ j1 = well.data_apart j j1 (b + i) d d1 at at1 in0 (subst (λ y. is_in y d1 ≡ true) (sym same) in1) in
      let same_d : d ≡ d1 = (let z : Some d ≡ Some d1 = sym at ∙ ap (λ y. slice_get (all_data program.sections) y) ej ∙ at1 in cc) in
      let eb : b ≡ b1 = sym ed ∙ ap (λ (y : Datum). y.place) same_d ∙ ed1 in
      lasts.apart o o1 b e (subst (λ y. BaseOf lasting o1 y) (sym eb) e1) (sized (omega arith)) (sized1 (omega arith))
  apart_of o n b i o1 n1 b1 i1 e e1 (nothing en l0 l1) r lt lt1 same = absurd (omega arith)
  apart_of o n b i o1 n1 b1 i1 e e1 r (nothing en l0 l1) lt lt1 same = absurd (omega arith)

  pub lasting_fits : Fits codes (record { bases = lasting; mem = first_memory p; cells = first_cells program first }) first
  lasting_fits = record {
    long = lasts.long ∙ sym (objects_long p 0 p);
    same = λ o i c b h e. cell_stands codes lasting c (first_cells program first (b + i)) (cell_is o b i c h e);
    variable = λ o n b i a e lt.
        let l = alive_is (cells_at (first_memory p) o) n a in
        let c = get_at l.cells i (omega (arith, l.long)) in
        cell_variable codes c.0 (first_cells program first (b + i)) (cell_is o b i c.0 (ap (λ y. option_and_then (λ cells. slice_get cells i) y) l.is ∙ c.1) e);
    apart = λ o n b i o1 n1 b1 i1 a e lt a1 e1 lt1 same. apart_of o n b i o1 n1 b1 i1 e e1 (region_of o n b a e) (region_of o1 n1 b1 a1 e1) lt lt1 same;
    below = λ o n b a e. (below_of o n b (region_of o n b a e)).1;
    small = λ o n b a e. let le = (below_of o n b (region_of o n b a e)).1 in let low = well.low in omega arith;
    set = λ o n b a e. (below_of o n b (region_of o n b a e)).0;
  }

-- ---- global 1

-- no routine, and nothing that a procedure does not set
abbrev StartCell : value.Cell → Type 0
StartCell (holds unset) = Unit {0}
StartCell (holds (procedure k)) = Unit {0}
StartCell _ = ⊥

record StartsIn (vs : List value.Cell) : Type 0 where
  pub each : (c : value.Cell) → slice_get vs 1 ≡ Some c → StartCell c

one_starts : (n i : ℕ) (vs : List value.Cell) → StartsIn vs → StartsIn (slice_set vs i (holds (procedure n)))
one_starts n i vs h = record {
  each = λ c e. ⊎_elim (λ (x : (1 ≡ i) × (c ≡ holds (procedure n))). subst StartCell (sym x.1) tt) (λ (x : (1 ≢ i) × (slice_get vs 1 ≡ Some c)). h.each c x.1) (get_set vs i 1 (holds (procedure n)) c e);
}

library_starts : StartsIn (library_cells ++ replicate 988 (holds unset))
library_starts = record { each = λ c e. subst StartCell (let z : holds unset ≡ c = (let q : Some (holds unset) ≡ Some c = e in cc) in z) tt }

-- object 0 is the global vector
pub vector_there : (program : Program) (first : ℕ) (codes : Codes) (lasting : List ℕ) (rest : List Lasting) → HoldsLasting program first codes lasting (global_vector ∷ rest) → BaseOf lasting 0 16
vector_there program first codes lasting rest lasts =
    let first_base = get_at lasting 0 (let l = lasts.long in omega arith) in
    let here : first_base.0 ≡ 16 = (lasts.each 0 first_base.0 global_vector refl first_base.1).1 in
    subst (λ b. BaseOf lasting 0 b) here first_base.1

module _ (setting : Setting) (rest : List Lasting) (lasts : HoldsLasting setting.program setting.first setting.codes setting.lasting (global_vector ∷ rest)) (known : (r : value.Routine) → setting.codes.routine r ≡ library_word r) where
  abbrev p : List Lasting
  p = global_vector ∷ rest

  pub first_store : FirstStore setting (first_memory p) (first_cells setting.program setting.first)
  first_store = record {
    fits = lasting_fits setting.program setting.first setting.well setting.codes setting.lasting p lasts known;
    words = first_bytes_are setting.program setting.first setting.well;
    frame = link_first setting.program setting.first setting.well;
    back = link_next setting.program setting.first setting.well;
  }

  pub start_there : NoStart setting p ⊎ HasStart setting p
  start_there =
      let long = globals_long setting.codes p in
      let c = get_at (global_cells p) 1 (omega arith) in
      by_cell c.0 c.1 ((procedures_keep StartsIn one_starts 0 p (library_cells ++ replicate 988 (holds unset)) library_starts).each c.0 c.1)
      (cell_is setting.program setting.first setting.well setting.codes setting.lasting p lasts known 0 16 1 c.0 c.1 (vector_there setting.program setting.first setting.codes setting.lasting rest lasts))
    where
      by_cell : (c : value.Cell) → slice_get (global_cells p) 1 ≡ Some c → StartCell c → CellIs setting.codes c (first_cells setting.program setting.first (16 + 1)) → NoStart setting p ⊎ HasStart setting p
      by_cell (holds unset) e s h = inl (record { is = ap (λ y. option_and_then value_in y) e; word = ap content_of h })
      by_cell (holds (procedure k)) e s h = inr (record { number = k; is = ap (λ y. option_and_then value_in y) e; word = ap content_of h })
      by_cell _ e s h = absurd s
