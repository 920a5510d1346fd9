-- Each label that is used is set, by the right kind of statement; and texts are short.
use Rattle.bk_ocode.proofs.CaseLemmas.{at_push}
use Rattle.bk_ocode.proofs.JumpDepths.{after-same, after-label, keeps_in, at_seam, get-append, ◌≡◌, ◌⊎◌, inl, inr, ℕ, zero, suc, ◌+◌, ◌≤◌, nat_le, nat_lt, Bool, true, false, not, ◌||◌, ◌==◌, List, [], ◌∷◌, ◌++◌, length, take, slice_get, Some, None, refl, sym, ◌∙◌, ap, subst, arith, leb-false, ltb-false, list_all, FRAME_WORDS, OCODE_STATEMENTS, OCODE_WORDS, stmt_words, next_depth, data_labels, item_label, global_labels, role, may_stand, position_after, Context, at_start, after, after_all, context_of, is_data, is_entry, data_set, label_not_set, too_long, AreFaultless, IsSection, text_size, IsAmong, DataFindsItsLabel, ItemFindsItsLabel, GlobalFindsItsEntry, GlobalIsLast, TextIsShort, StmtPlace, Outer, Setting, GlobalEntry, Stmt, Label, Entry, DataLabel, DataAddress, Globals, Position as position, Setting as setting, same_Some, and_parts, not-false, or_cases, or_parts, take-append_seam}
use Rattle.bk_ocode.proofs.JumpPlaces.{all_at, among_all, dec_by, after-entry, after-data}

-- the last statement of a section
last_is : (c : Context) (s : Stmt) (rest : List Stmt) → (after_all c (s ∷ rest)).position ≡ position.Ended → (front : List Stmt) × (entries : List GlobalEntry) × (s ∷ rest ≡ front ++ Globals entries ∷ [])
last_is c (Globals entries) [] e = ([], entries, refl)
last_is c (Entry l name) [] e = absurd (let h : position.Opened ≡ position.Ended = e in cc)
last_is c (Label l) [] e = absurd (let h : position.AfterLabel l ≡ position.Ended = e in cc)
last_is c (DataLabel l) [] e = absurd (let h : position.InData ≡ position.Ended = e in cc)
last_is c (DataAddress l) [] e = absurd (let h : position.InData ≡ position.Ended = e in cc)
last_is c s [] e = absurd (cc)
last_is c s (t ∷ rest) e = let more = last_is (after c s) t rest e in (s ∷ more.0, more.1, ap (λ (l : List Stmt). s ∷ l) more.2)

pub global_is_last : GlobalIsLast
global_is_last [] are = absurd (let h : position.Outside ≡ position.Ended = are.ended in cc)
global_is_last (s ∷ rest) are = last_is at_start s rest are.ended

-- what set a label
data_from : (c : Context) (s : Stmt) (l : ℕ) → ((after c s).uses l).setting ≡ setting.Data → (s ≡ DataLabel l) ⊎ ((c.uses l).setting ≡ setting.Data)
data_from c (DataLabel m) l e = grind (arith, dec_by, after-same)
data_from c (Entry m name) l e = grind (arith, dec_by, after-entry, after-same)
data_from c (Label m) l e = grind (arith, dec_by, after-label, after-same)
data_from c s l e = inr (sym (after-same c s l (λ h. let k : None ≡ Some l = h in cc)) ∙ e)

entry_from : (c : Context) (s : Stmt) (l : ℕ) → ((after c s).uses l).setting ≡ setting.Entry → ((name : List ℕ) × (s ≡ Entry l name)) ⊎ ((c.uses l).setting ≡ setting.Entry)
entry_from c (Entry m name) l e = grind (arith, dec_by, after-same)
entry_from c (DataLabel m) l e = elim (dec_by (m == l) m l refl) [
  | inl same ↦ let h : setting.Data ≡ setting.Entry = sym (after-data c m) ∙ ap (λ (x : ℕ). ((after c (DataLabel m)).uses x).setting) same ∙ e in absurd cc
  | inr apart ↦ inr (sym (after-same c (DataLabel m) l (λ h. apart (same_Some m l h))) ∙ e)
]
entry_from c (Label m) l e = grind (arith, dec_by, after-label, after-same)
entry_from c s l e = inr (sym (after-same c s l (λ h. let k : None ≡ Some l = h in cc)) ∙ e)

data_exists : (c : Context) (stmts : List Stmt) (l : ℕ) → ((after_all c stmts).uses l).setting ≡ setting.Data → ((c.uses l).setting ≡ setting.Data) ⊎ ((j : ℕ) × (slice_get stmts j ≡ Some (DataLabel l)))
data_exists c [] l e = inl e
data_exists c (s ∷ rest) l e = elim (data_exists (after c s) rest l e) [
  | inl h ↦ elim (data_from c s l h) [ inl is ↦ inr (0, ap (λ (x : Stmt). Some x) is) | inr k ↦ inl k ]
  | inr q ↦ inr (suc q.0, q.1)
]

entry_exists : (c : Context) (stmts : List Stmt) (l : ℕ) → ((after_all c stmts).uses l).setting ≡ setting.Entry →
    ((c.uses l).setting ≡ setting.Entry) ⊎ ((j : ℕ) × (name : List ℕ) × (slice_get stmts j ≡ Some (Entry l name)))
entry_exists c [] l e = inl e
entry_exists c (s ∷ rest) l e = elim (entry_exists (after c s) rest l e) [
  | inl h ↦ elim (entry_from c s l h) [ inl is ↦ inr (0, is.0, ap (λ (x : Stmt). Some x) is.1) | inr k ↦ inl k ]
  | inr q ↦ inr (suc q.0, q.1, q.2)
]

is_data-so : (g : Setting) → is_data g ≡ true → g ≡ setting.Data
is_data-so setting.Data e = refl
is_data-so x e = absurd (let h : false ≡ true = e in cc)

is_entry-so : (g : Setting) → is_entry g ≡ true → g ≡ setting.Entry
is_entry-so setting.Entry e = refl
is_entry-so x e = absurd (let h : false ≡ true = e in cc)

-- what is checked at the end
record Checked (stmts : List Stmt) : Type 0 where
  front : List Stmt
  entries : List GlobalEntry
  whole : stmts ≡ front ++ Globals entries ∷ []
  of_data : list_all (data_set (context_of front)) front ≡ true
  of_globals : list_all (λ label. is_entry ((context_of front).uses label).setting) (global_labels (Globals entries)) ≡ true

checked : (stmts : List Stmt) → IsSection stmts → Checked stmts
checked stmts are =
    let last = global_is_last stmts are in
    let at : slice_get stmts (length last.0) ≡ Some (Globals last.1) = ap (λ (l : List Stmt). slice_get l (length last.0)) last.2 ∙ at_seam last.0 (Globals last.1) [] in
    let same : take (length last.0) stmts ≡ last.0 = ap (take (length last.0)) last.2 ∙ take-append_seam last.0 (Globals last.1 ∷ []) in
    let keeps = keeps_in (take (length last.0) stmts) (context_of (take (length last.0) stmts)) (Globals last.1) (are.are_faultless.faultless (length last.0) (Globals last.1) at) in
    let set : label_not_set last.0 (context_of last.0) (Globals last.1) ≡ false = subst (λ (l : List Stmt). label_not_set l (context_of l) (Globals last.1) ≡ false) same keeps.set in
    let two = and_parts (list_all (data_set (context_of last.0)) last.0) (list_all (λ label. is_entry ((context_of last.0).uses label).setting) (global_labels (Globals last.1))) (not-false _ set) in
    record { front = last.0; entries = last.1; whole = last.2; of_data = two.0; of_globals = two.1 }

in_whole : (stmts front : List Stmt) (g : Stmt) (j : ℕ) (s : Stmt) → stmts ≡ front ++ g ∷ [] → slice_get front j ≡ Some s → slice_get stmts j ≡ Some s
in_whole stmts front g j s whole at = ap (λ (l : List Stmt). slice_get l j) whole ∙ get-append front (g ∷ []) j s at

data_there : (stmts : List Stmt) (k : Checked stmts) (l : ℕ) → is_data ((context_of k.front).uses l).setting ≡ true → (place : ℕ) × (slice_get stmts place ≡ Some (DataLabel l))
data_there stmts k l e = grind (arith, data_exists, is_data-so, in_whole)

entry_there : (stmts : List Stmt) (k : Checked stmts) (l : ℕ) → is_entry ((context_of k.front).uses l).setting ≡ true → (place : ℕ) × (name : List ℕ) × (slice_get stmts place ≡ Some (Entry l name))
entry_there stmts k l e = grind (arith, entry_exists, is_entry-so, in_whole)

-- a statement before the last keeps the rule of data
data_rule : (stmts : List Stmt) (k : Checked stmts) (i : ℕ) (s : Stmt) → slice_get stmts i ≡ Some s → (data_set (context_of k.front) s ≡ true) ⊎ (Globals k.entries ≡ s)
data_rule stmts k i s at = elim (at_push k.front (Globals k.entries) i s (ap (λ (l : List Stmt). slice_get l i) (sym k.whole) ∙ at)) [
  | inl p ↦ inl (all_at (data_set (context_of k.front)) k.front 0 i s k.of_data (omega arith) p.1)
  | inr p ↦ inr p.1
]

pub data_finds_its_label : DataFindsItsLabel
data_finds_its_label stmts i l s are at among =
    let k = checked stmts are in
    let c = context_of k.front in
    elim (data_rule stmts k i s at) [
      | inl h ↦ data_there stmts k l (among_all (λ label. is_data (c.uses label).setting) (data_labels s) l
          (and_parts (list_all (λ label. is_data (c.uses label).setting) (data_labels s)) (list_all (λ label. is_data (c.uses label).setting || is_entry (c.uses label).setting) (item_label s)) h).0 among)
      | inr same ↦ absurd (subst (λ (x : Stmt). IsAmong l (data_labels x)) (sym same) among)
    ]

pub item_finds_its_label : ItemFindsItsLabel
item_finds_its_label stmts i l are at =
    let k = checked stmts are in
    let c = context_of k.front in
    elim (data_rule stmts k i (DataAddress l) at) [
      | inl h ↦
          let one = among_all (λ label. is_data (c.uses label).setting || is_entry (c.uses label).setting) (item_label (DataAddress l)) l
          (and_parts (list_all (λ label. is_data (c.uses label).setting) (data_labels (DataAddress l))) (list_all (λ label. is_data (c.uses label).setting || is_entry (c.uses label).setting) (item_label (DataAddress l))) h).1 (inl refl) in
          elim (or_cases (is_data (c.uses l).setting) (is_entry (c.uses l).setting) one) [
            | inl d ↦ let q = data_there stmts k l d in (q.0, inl q.1)
            | inr d ↦ let q = entry_there stmts k l d in (q.0, inr (q.1, q.2))
          ]
      | inr same ↦ absurd (let z : Globals k.entries ≡ DataAddress l = same in cc)
    ]

-- nothing may stand behind GLOBAL
no_role : (r : StmtPlace) → may_stand position.Ended r ≡ false
no_role Outer = refl
no_role _ = refl

position_at : (c : Context) (stmts : List Stmt) (j : ℕ) (s : Stmt) → slice_get stmts j ≡ Some s → (after_all c (take (suc j) stmts)).position ≡ position_after s
position_at c [] j s at = absurd (let h : None ≡ Some s = at in cc)
position_at c (t ∷ rest) zero s at = let same : t ≡ s = (let h : Some t ≡ Some s = at in cc) in ap position_after same
position_at c (t ∷ rest) (suc j) s at = position_at (after c t) rest j s at

next_there : (front : List Stmt) (g s : Stmt) (j : ℕ) → slice_get front j ≡ Some s → (t : Stmt) × (slice_get (front ++ g ∷ []) (suc j) ≡ Some t)
next_there [] g s j at = absurd (let h : None ≡ Some s = at in cc)
next_there (x ∷ []) g s zero at = (g, refl)
next_there (x ∷ []) g s (suc j) at = absurd (let h : None ≡ Some s = at in cc)
next_there (x ∷ y ∷ front) g s zero at = (y, refl)
next_there (x ∷ y ∷ front) g s (suc j) at = next_there (y ∷ front) g s j at

global_alone : (stmts : List Stmt) → AreFaultless stmts → (k : Checked stmts) (j : ℕ) (entries : List GlobalEntry) → slice_get k.front j ≡ Some (Globals entries) → ⊥
global_alone stmts are k j entries at =
    let next = next_there k.front (Globals k.entries) (Globals entries) j at in
    let there : slice_get stmts (suc j) ≡ Some next.0 = ap (λ (l : List Stmt). slice_get l (suc j)) k.whole ∙ next.1 in
    let here : slice_get stmts j ≡ Some (Globals entries) = in_whole stmts k.front (Globals k.entries) j (Globals entries) k.whole at in
    let ended : (context_of (take (suc j) stmts)).position ≡ position.Ended = position_at at_start stmts j (Globals entries) here in
    let placed : not (may_stand (context_of (take (suc j) stmts)).position (role next.0)) ≡ false =
    (keeps_in (take (suc j) stmts) (context_of (take (suc j) stmts)) next.0 (are.faultless (suc j) next.0 there)).place in
    let h : true ≡ false = ap (λ b. not b) (sym (ap (λ p. may_stand p (role next.0)) ended ∙ no_role (role next.0))) ∙ placed in
    cc

pub global_finds_its_entry : GlobalFindsItsEntry
global_finds_its_entry stmts i l entries are at among =
    let k = checked stmts are in
    let c = context_of k.front in
    elim (at_push k.front (Globals k.entries) i (Globals entries) (ap (λ (x : List Stmt). slice_get x i) (sym k.whole) ∙ at)) [
      | inl p ↦ absurd (global_alone stmts (are.are_faultless) k i entries p.1)
      | inr p ↦ entry_there stmts k l (among_all (λ label. is_entry (c.uses label).setting) (global_labels (Globals k.entries)) l k.of_globals
          (subst (λ (x : Stmt). IsAmong l (global_labels x)) (sym p.1) among))
    ]

-- texts are short
all_short : (c : Context) (stmts : List Stmt) → c.count ≤ OCODE_STATEMENTS → c.words ≤ OCODE_WORDS → ((k : ℕ) (t : Stmt) → slice_get stmts k ≡ Some t → too_long (after_all c (take k stmts)) t ≡ false) →
    (c.count + length stmts ≤ OCODE_STATEMENTS) × (c.words + text_size stmts ≤ OCODE_WORDS)
all_short c [] few short are = (omega (arith, few), omega (arith, short))
all_short c (s ∷ rest) few short are =
    let long : Bool = nat_lt OCODE_WORDS (c.words + length (stmt_words s)) in
    let a = or_parts (nat_le OCODE_STATEMENTS c.count) (long || nat_lt FRAME_WORDS (next_depth c.depth s)) (are 0 s refl) in
    let b = or_parts long (nat_lt FRAME_WORDS (next_depth c.depth s)) a.1 in
    let less = leb-false OCODE_STATEMENTS c.count a.0 in
    let words = ltb-false OCODE_WORDS (c.words + length (stmt_words s)) b.0 in
    let more = all_short (after c s) rest (omega (arith, less)) (omega (arith, words)) (λ k t at. are (suc k) t at) in
    (omega (arith, more.0), omega (arith, more.1))

pub text_is_short : TextIsShort
text_is_short stmts are =
    let short = all_short at_start stmts (omega arith) (omega arith) (λ k t at. (keeps_in (take k stmts) (context_of (take k stmts)) t (are.faultless k t at)).short) in
    (omega (arith, short.0), omega (arith, short.1))
