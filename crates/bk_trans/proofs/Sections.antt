-- A whole section: its procedures, data and GLOBAL agree with a plan, where each part is good and has its marks.
use Rattle.bk_trans.proofs.Terms.{Bound as b, Stmt as t, Target, routine, function, labels, labels_in, labels_of_procedure, labels_of_definition, Part, procedure, static_item, static_table, parts, parts_in, target_of, outermost, procedure_code, word_code, data_code, entry_of, entries_of, section_code}
use Rattle.bk_ocode.specs.Typing as typing
use Rattle.bk_trans.proofs.Counted.{entry_few}
use Rattle.bk_trans.proofs.Marked.{times_marked, value_marked, command_marked}
use Rattle.bk_trans.proofs.Steps.{typed_then, short_bytes}
use Rattle.bk_trans.proofs.Forms.{AllTables, Surrounds, value_typed, command_typed, no_exits, Room, Good, GoodIn, Mark, marks, marks_in, AllRight, Right, set_both, words_none, arith, ◌≡◌, inr, ℕ, ◌+◌, ◌-◌, ◌≤◌, ◌==◌, Bool, true, false, cond, Some, List, [], ◌∷◌, ◌++◌, length, map, refl, sym, ap, ◌∙◌, eqb-true, eq-eqb, length-append, ⊤, signed, GLOBAL_NUMBER, OCODE_LABEL, OCODE_STATEMENTS, Bound, GlobalEntry, Stmt, joined, IsLabel, IsGlobal, AreEntries, Use, outside, ended, AllEntries, Typed, done, enters, returns, gives, begins, points, ends, sets, times_set, Every, every_front, every_back, every_both, total_both, all_found, every_at}

-- the marks of a part that stands by itself
abbrev pub entry_mark : ℕ → Mark
entry_mark l = record { spot = l; purpose = typing.entry }

abbrev pub word_mark : ℕ → Mark
word_mark l = record { spot = l; purpose = typing.word }

abbrev pub name_marks : ℕ → Bound → List Mark
name_marks n (b.Static m) = word_mark (n + 1) ∷ []
name_marks n _ = []

abbrev pub part_marks : Part → List Mark
part_marks (procedure n (routine x name k c)) = entry_mark n ∷ name_marks n x ++ marks_in n (k + 2) (n + labels_of_procedure x) c
part_marks (procedure n (function x name k e)) = entry_mark n ∷ name_marks n x ++ marks n (k + 2) (n + labels_of_procedure x) e
part_marks (static_item n k) = word_mark n ∷ []
part_marks (static_table n ws) = word_mark n ∷ []
part_marks _ = []

-- a procedure's own name
abbrev pub GoodName : Bound → Type 0
GoodName (b.Global (Some g)) = g ≤ GLOBAL_NUMBER
GoodName _ = ⊤

-- what a part by itself asks for
abbrev pub GoodPart : (ℕ → Use) → List Target → Part → Type 0
GoodPart plan ts (procedure n (routine x name k c)) =
    (1 ≤ n) × (n + labels_of_definition (routine x name k c) ≤ OCODE_LABEL + 1) × GoodName x × Room (k + 2)
    × GoodIn plan ts n no_exits (k + 2) c × AllTables plan (parts_in (k + 2) (n + labels_of_procedure x) c)
GoodPart plan ts (procedure n (function x name k e)) =
    (1 ≤ n) × (n + labels_of_definition (function x name k e) ≤ OCODE_LABEL + 1) × GoodName x × Room (k + 2)
    × Good plan ts n (k + 2) e × AllTables plan (parts (k + 2) (n + labels_of_procedure x) e)
GoodPart plan ts (static_item n k) = IsLabel n
GoodPart plan ts (static_table n ws) = IsLabel n
GoodPart plan ts _ = ⊤

abbrev pub AllGood : (ℕ → Use) → List Target → List Part → Type 0
AllGood plan ts xs = Every (GoodPart plan ts) xs

-- nothing around a procedure's body
bare : (plan : ℕ → Use) (p s : ℕ) → Surrounds plan p no_exits s outermost
bare plan p s = record {
  loop = λ h. absurd (let n : false ≡ true = h in cc);
  switch = λ h. absurd (let n : false ≡ true = h in cc);
  valof = λ h. absurd (let n : false ≡ true = h in cc);
}

one_label : (x : Bound) → 1 ≤ labels_of_procedure x
one_label (b.Static m) = omega arith
one_label _ = omega arith

-- from outside of procedures to there
record Outer (plan : ℕ → Use) (x : Bool) (k : ℕ) (xs : List Stmt) : Type 0 where
  mode : Bool
  depth : ℕ
  typed : Typed plan (outside x k) xs (outside mode depth)

procedure_typed : (plan : ℕ → Use) (ts : List Target) (y : Bool) (d : ℕ) (x : Part) → GoodPart plan ts x → AllRight plan (part_marks x) → Outer plan y d (procedure_code ts x)
procedure_typed plan ts y d (procedure n (routine x name k c)) g r =
    let one = one_label x in
    let low = g.0 in
    let high : n + (labels_of_procedure x + labels_in c) ≤ OCODE_LABEL + 1 = g.1 in
    let much = g.3 in
    let inner = command_typed plan ts n no_exits outermost (k + 2) (n + labels_of_procedure x) c (omega arith) much (omega (arith, low)) (omega (arith, high)) (bare plan n (k + 2)) g.4 g.5
    (every_back (Right plan) (name_marks n x) _ r.1) in
    record {
      mode = false;
      depth = k + 2;
      typed = typed_then (enters r.0 ((low, omega (arith, high, one)), short_bytes name) (omega arith, much) inner) (returns done);
    }
procedure_typed plan ts y d (procedure n (function x name k e)) g r =
    let one = one_label x in
    let low = g.0 in
    let high : n + (labels_of_procedure x + labels e) ≤ OCODE_LABEL + 1 = g.1 in
    let much = g.3 in
    let inner = value_typed plan ts n (k + 2) (n + labels_of_procedure x) e (omega arith) (omega (arith, low)) (omega (arith, high)) g.4 g.5 (every_back (Right plan) (name_marks n x) _ r.1) in
    record {
      mode = false;
      depth = k + 2 + 1 - 1;
      typed = typed_then (enters r.0 ((low, omega (arith, high, one)), short_bytes name) (omega arith, much) inner) (gives (omega arith) done);
    }
procedure_typed plan ts y d _ g r = record { mode = y; depth = d; typed = done }

procedures_typed : (plan : ℕ → Use) (ts : List Target) (y : Bool) (d : ℕ) (xs : List Part) → AllGood plan ts xs → AllRight plan (joined part_marks xs)
    → Outer plan y d (joined (procedure_code ts) xs)
procedures_typed plan ts y d [] g r = record { mode = y; depth = d; typed = done }
procedures_typed plan ts y d (x ∷ xs) g r =
    let first = procedure_typed plan ts y d x g.0 (every_front (Right plan) (part_marks x) _ r) in
    let rest = procedures_typed plan ts first.mode first.depth xs g.1 (every_back (Right plan) (part_marks x) _ r) in
    record { mode = rest.mode; depth = rest.depth; typed = typed_then first.typed rest.typed }

-- data
name_typed : (plan : ℕ → Use) (y : Bool) (d n : ℕ) (x : Bound) → plan n ≡ typing.entry → IsLabel n → n + labels_of_procedure x ≤ OCODE_LABEL + 1 → AllRight plan (name_marks n x)
    → Outer plan y d (word_code n x)
name_typed plan y d n (b.Static m) e range high r =
    record { mode = true; depth = d; typed = begins r.0 (omega arith, omega (arith, high)) (points (inr e) range done) }
name_typed plan y d n _ e range high r = record { mode = y; depth = d; typed = done }

words_typed : (plan : ℕ → Use) (d : ℕ) (ws : List ℕ) → Typed plan (outside true d) (map (λ w. t.DataNumber (signed w)) ws) (outside true d)
words_typed plan d [] = done
words_typed plan d (w ∷ ws) = typing.holds (words_typed plan d ws)

datum_typed : (plan : ℕ → Use) (ts : List Target) (y : Bool) (d : ℕ) (x : Part) → GoodPart plan ts x → AllRight plan (part_marks x) → Outer plan y d (data_code x)
datum_typed plan ts y d (procedure n (routine x name k c)) g r =
    let low = g.0 in let high : n + (labels_of_procedure x + labels_in c) ≤ OCODE_LABEL + 1 = g.1 in let one = one_label x in
    name_typed plan y d n x r.0 (low, omega (arith, high, one)) (omega (arith, high)) (every_front (Right plan) (name_marks n x) _ r.1)
datum_typed plan ts y d (procedure n (function x name k e)) g r =
    let low = g.0 in let high : n + (labels_of_procedure x + labels e) ≤ OCODE_LABEL + 1 = g.1 in let one = one_label x in
    name_typed plan y d n x r.0 (low, omega (arith, high, one)) (omega (arith, high)) (every_front (Right plan) (name_marks n x) _ r.1)
datum_typed plan ts y d (static_item n k) g r = record { mode = true; depth = d; typed = begins r.0 g (typing.holds done) }
datum_typed plan ts y d (static_table n ws) g r = record { mode = true; depth = d; typed = begins r.0 g (words_typed plan d ws) }
datum_typed plan ts y d _ g r = record { mode = y; depth = d; typed = done }

data_typed : (plan : ℕ → Use) (ts : List Target) (y : Bool) (d : ℕ) (xs : List Part) → AllGood plan ts xs → AllRight plan (joined part_marks xs) → Outer plan y d (joined data_code xs)
data_typed plan ts y d [] g r = record { mode = y; depth = d; typed = done }
data_typed plan ts y d (x ∷ xs) g r =
    let first = datum_typed plan ts y d x g.0 (every_front (Right plan) (part_marks x) _ r) in
    let rest = data_typed plan ts first.mode first.depth xs g.1 (every_back (Right plan) (part_marks x) _ r) in
    record { mode = rest.mode; depth = rest.depth; typed = typed_then first.typed rest.typed }

-- GLOBAL
abbrev EntryGood : (ℕ → Use) → GlobalEntry → Type 0
EntryGood plan e = (plan e.label ≡ typing.entry) × IsGlobal e.number × IsLabel e.label

abbrev EntriesGood : (ℕ → Use) → List GlobalEntry → Type 0
EntriesGood plan es = Every (EntryGood plan) es

entry_good : (plan : ℕ → Use) (n : ℕ) (x : Bound) → plan n ≡ typing.entry → IsLabel n → GoodName x → EntriesGood plan (entry_of n x)
entry_good plan n (b.Global (Some g)) e range h = ((e, h, range), tt)
entry_good plan n _ e range h = tt

part_entries : (plan : ℕ → Use) (ts : List Target) (x : Part) → GoodPart plan ts x → AllRight plan (part_marks x) → EntriesGood plan (entries_of x)
part_entries plan ts (procedure n (routine x name k c)) g r =
    let low = g.0 in let high : n + (labels_of_procedure x + labels_in c) ≤ OCODE_LABEL + 1 = g.1 in let one = one_label x in
    entry_good plan n x r.0 (low, omega (arith, high, one)) g.2
part_entries plan ts (procedure n (function x name k e)) g r =
    let low = g.0 in let high : n + (labels_of_procedure x + labels e) ≤ OCODE_LABEL + 1 = g.1 in let one = one_label x in
    entry_good plan n x r.0 (low, omega (arith, high, one)) g.2
part_entries plan ts _ g r = tt

all_entries : (plan : ℕ → Use) (ts : List Target) (xs : List Part) → AllGood plan ts xs → AllRight plan (joined part_marks xs) → EntriesGood plan (joined entries_of xs)
all_entries plan ts [] g r = tt
all_entries plan ts (x ∷ xs) g r =
    every_both (EntryGood plan) (entries_of x) _ (part_entries plan ts x g.0 (every_front (Right plan) (part_marks x) _ r)) (all_entries plan ts xs g.1 (every_back (Right plan) (part_marks x) _ r))

entries_named : (plan : ℕ → Use) (es : List GlobalEntry) → EntriesGood plan es → AllEntries plan (map (λ e. e.label) es)
entries_named plan [] h = tt
entries_named plan (e ∷ es) h = (h.0.0, entries_named plan es h.1)

-- each entry has a procedure's statements
part_few : (ts : List Target) (x : Part) → length (entries_of x) ≤ length (procedure_code ts x)
part_few ts (procedure n (routine x name k c)) = let h = entry_few n x in omega (arith, h)
part_few ts (procedure n (function x name k e)) = let h = entry_few n x in omega (arith, h)
part_few ts _ = omega arith

entries_few : (ts : List Target) (xs : List Part) → length (joined entries_of xs) ≤ length (joined (procedure_code ts) xs)
entries_few ts [] = omega arith
entries_few ts (x ∷ xs) =
    let h = part_few ts x in let i = entries_few ts xs in
    let j = length-append (entries_of x) (joined entries_of xs) in let k = length-append (procedure_code ts x) (joined (procedure_code ts) xs) in omega (arith, h, i, j, k)

-- the section
pub section_typed : (plan : ℕ → Use) (xs : List Part) → AllGood plan (joined target_of xs) xs → AllRight plan (joined part_marks xs) → length (section_code xs) ≤ OCODE_STATEMENTS
    → Typed plan (outside false 0) (section_code xs) ended
section_typed plan xs g r short =
    let ts = joined target_of xs in
    let first = procedures_typed plan ts false 0 xs g r in
    let second = data_typed plan ts first.mode first.depth xs g r in
    let entries = all_entries plan ts xs g r in
    let h = entries_few ts xs in
    let i = length-append (joined (procedure_code ts) xs ++ joined data_code xs) (t.Globals (joined entries_of xs) ∷ []) in
    let j = length-append (joined (procedure_code ts) xs) (joined data_code xs) in
    let are : AreEntries (joined entries_of xs) = record {
      in_range = λ k e at. let g = every_at (EntryGood plan) (joined entries_of xs) entries k e at in (g.1, g.2);
      counted = omega (arith, h, i, j, short);
    } in
    typed_then (typed_then first.typed second.typed) (ends are (entries_named plan (joined entries_of xs) entries) done)

-- The plan that has these marks.
abbrev pub look : List Mark → ℕ → Use
look [] l = typing.unused
look (m ∷ ms) l = cond (m.spot == l) m.purpose (look ms l)

pub look_right : (ms : List Mark) → ((l : ℕ) → times_marked l ms ≤ 1) → AllRight (look ms) ms
look_right = all_found (λ m. m.spot) (λ m. m.purpose) look (λ m ms l. refl)

pub look_set : (ms : List Mark) (l : ℕ) → (look ms l ≡ typing.unused → ⊥) → 1 ≤ times_marked l ms
look_set [] l used = absurd (used refl)
look_set (m ∷ ms) l used = pick (m.spot == l) refl (λ h. look_set ms l h)
  where
    pick : (x : Bool) → (m.spot == l) ≡ x → ((look ms l ≡ typing.unused → ⊥) → 1 ≤ times_marked l ms) → 1 ≤ sets l (Some m.spot) + times_marked l ms
    pick true e later = let one : sets l (Some m.spot) ≡ 1 = ap (λ (x : Bool). cond x 1 0) (eq-eqb l m.spot (sym (eqb-true m.spot l e))) in omega (arith, one)
    pick false e later = let h = later (λ i. used (ap (λ (x : Bool). cond x m.purpose (look ms l)) e ∙ i)) in omega (arith, h)

-- a part sets what its marks have
name_marked : (l n : ℕ) (x : Bound) → times_set l (word_code n x) ≡ times_marked l (name_marks n x)
name_marked l n (b.Static m) = omega arith
name_marked l n _ = refl

part_marked : (l : ℕ) (ts : List Target) (x : Part) → times_set l (procedure_code ts x) + times_set l (data_code x) ≡ times_marked l (part_marks x)
part_marked l ts (procedure n (routine x name k c)) =
    let h = name_marked l n x in let i = command_marked l ts outermost n (k + 2) (n + labels_of_procedure x) c in simp (set_both, total_both) (omega (arith, h, i))
part_marked l ts (procedure n (function x name k e)) =
    let h = name_marked l n x in let i = value_marked l ts n (k + 2) (n + labels_of_procedure x) e in simp (set_both, total_both) (omega (arith, h, i))
part_marked l ts (static_item n k) = omega arith
part_marked l ts (static_table n ws) = let h = words_none l ws in omega (arith, h)
part_marked l ts _ = refl

parts_marked : (l : ℕ) (ts : List Target) (xs : List Part) → times_set l (joined (procedure_code ts) xs) + times_set l (joined data_code xs) ≡ times_marked l (joined part_marks xs)
parts_marked l ts [] = refl
parts_marked l ts (x ∷ xs) = simp (set_both, total_both) (omega (arith, part_marked l ts x, parts_marked l ts xs))

pub section_marked : (l : ℕ) (xs : List Part) → times_set l (section_code xs) ≡ times_marked l (joined part_marks xs)
section_marked l xs =
    let ts = joined target_of xs in
    let h = parts_marked l ts xs in
    let i = set_both l (joined (procedure_code ts) xs ++ joined data_code xs) (t.Globals (joined entries_of xs) ∷ []) in
    let j = set_both l (joined (procedure_code ts) xs) (joined data_code xs) in omega (arith, h, i, j)
