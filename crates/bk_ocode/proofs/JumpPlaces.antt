-- A jump finds a LAB of its label in the section.
use Rattle.bk_ocode.proofs.LabelsOnce.{slice_get-take}
use Rattle.bk_ocode.proofs.JumpDepths.{after-same, chosen, taken_from, keeps_in, ◌≡◌, ◌≢◌, ℕ, zero, suc, ◌+◌, ◌<◌, ◌≤◌, ◌==◌, Bool, true, false, not, List, [], ◌∷◌, ◌++◌, Some, None, take, drop, slice_get, refl, sym, ◌∙◌, ap, subst, arith, inl, inr, ◌⊎◌, eqb-true, eq-eqb, list_all, jump_labels, result_label, may_stand, position_after, Context, at_start, start_after, changed, mentioned, set_by, label_followed, after, after_all, context_of, misplaced, is_lab_from, jumps_set, label_not_set, IsSection, IsAmong, JumpFindsItsLabel, ResultFindsItsLabel, Position, Outer, Datum, Setting, Stmt, Jump, JumpIf, Label, GiveResult, Entry, EndProcedure, Switch, DataLabel, DataNumber, DataAddress, Globals, Position as position, Setting as setting, and_parts, not-false}

-- in a procedure
abbrev pub Within : Position → Bool
Within position.Outside = false
Within position.InData = false
Within position.Ended = false
Within x = true

not_outer : (p : Position) → Within p ≡ true → not (may_stand p Outer) ≡ false → ⊥
not_outer position.Outside w e = let h : false ≡ true = w in cc
not_outer position.InData w e = let h : false ≡ true = w in cc
not_outer position.Ended w e = let h : false ≡ true = w in cc
not_outer x w e = let h : true ≡ false = e in cc

not_datum : (p : Position) → Within p ≡ true → not (may_stand p Datum) ≡ false → ⊥
not_datum position.Outside w e = let h : false ≡ true = w in cc
not_datum position.InData w e = let h : false ≡ true = w in cc
not_datum position.Ended w e = let h : false ≡ true = w in cc
not_datum x w e = let h : true ≡ false = e in cc

-- a statement in a procedure ends it, or the next is in it too
abbrev GoesOn : Context → Stmt → Type 0
GoesOn c s = (s ≡ EndProcedure) ⊎ ((Within (position_after s) ≡ true) × (start_after c s ≡ c.start))

goes_on : (c : Context) (s : Stmt) → Within c.position ≡ true → misplaced c s ≡ false → GoesOn c s
goes_on c EndProcedure w e = inl refl
goes_on c (Entry l name) w e = absurd (not_outer c.position w e)
goes_on c (DataLabel l) w e = absurd (not_outer c.position w e)
goes_on c (Globals entries) w e = absurd (not_outer c.position w e)
goes_on c (DataNumber value) w e = absurd (not_datum c.position w e)
goes_on c (DataAddress l) w e = absurd (not_datum c.position w e)
goes_on c _ w e = inr (refl, refl)

-- no statement behind this context is misplaced
abbrev ArePlaced : Context → List Stmt → Type 0
ArePlaced c stmts = (k : ℕ) (t : Stmt) → slice_get stmts k ≡ Some t → misplaced (after_all c (take k stmts)) t ≡ false

-- the end of the procedure
record Closes (c : Context) (stmts : List Stmt) (start : ℕ) : Type 0 where
  place : ℕ
  at : slice_get stmts place ≡ Some EndProcedure
  begins : (after_all c (take place stmts)).start ≡ start

closes : (c : Context) (stmts : List Stmt) → Within c.position ≡ true → ArePlaced c stmts → (after_all c stmts).position ≡ position.Ended → Closes c stmts c.start
closes c [] w placed ended = absurd (let h : false ≡ true = ap Within (sym ended) ∙ w in cc)
closes c (s ∷ rest) w placed ended = elim (goes_on c s w (placed 0 s refl)) [
  | inl end ↦ record { place = 0; at = ap (λ (x : Stmt). Some x) end; begins = refl }
  | inr on ↦
      let more = closes (after c s) rest on.0 (λ k t is. placed (suc k) t is) ended in
      record { place = suc more.place; at = more.at; begins = more.begins ∙ on.1 }
]

record ClosesBehind (c : Context) (stmts : List Stmt) (i : ℕ) : Type 0 where
  place : ℕ
  at : slice_get stmts place ≡ Some EndProcedure
  later : i < place
  begins : (after_all c (take place stmts)).start ≤ c.count + i

start_before : (c : Context) (s : Stmt) → c.start ≤ c.count → start_after c s ≤ c.count + 1
start_before c (Entry l name) low = omega arith
start_before c _ low = omega (arith, low)

jump_goes_on : (c : Context) (s : Stmt) (l : ℕ) → IsAmong l (jump_labels s ++ result_label s) → (Within (position_after s) ≡ true) × (start_after c s ≡ c.start)
jump_goes_on c (Jump m) l among = (refl, refl)
jump_goes_on c (JumpIf truth m) l among = (refl, refl)
jump_goes_on c (Switch default cases) l among = (refl, refl)
jump_goes_on c (GiveResult m) l among = (refl, refl)
jump_goes_on c _ l among = absurd among

closes_behind : (c : Context) (stmts : List Stmt) (i : ℕ) (s : Stmt) (l : ℕ) → c.start ≤ c.count → slice_get stmts i ≡ Some s → IsAmong l (jump_labels s ++ result_label s) → ArePlaced c stmts →
    (after_all c stmts).position ≡ position.Ended → ClosesBehind c stmts i
closes_behind c [] i s l low at among placed ended = absurd (let h : None ≡ Some s = at in cc)
closes_behind c (t ∷ rest) zero s l low at among placed ended =
    let same : s ≡ t = (let h : Some s ≡ Some t = sym at in cc) in
    let on = jump_goes_on c t l (subst (λ (x : Stmt). IsAmong l (jump_labels x ++ result_label x)) same among) in
    let more = closes (after c t) rest on.0 (λ k u is. placed (suc k) u is) ended in
    record { place = suc more.place; at = more.at; later = omega arith; begins = omega (arith, more.begins, on.1, low) }
closes_behind c (t ∷ rest) (suc i) s l low at among placed ended =
    let more = closes_behind (after c t) rest i s l (start_before c t low) at among (λ k u is. placed (suc k) u is) ended in
    record { place = suc more.place; at = more.at; later = omega (arith, more.later); begins = omega (arith, more.begins) }

pub all_at : (p : Stmt → Bool) (stmts : List Stmt) (a i : ℕ) (s : Stmt) → list_all p (drop a stmts) ≡ true → a ≤ i → slice_get stmts i ≡ Some s → p s ≡ true
all_at p [] a i s all low at = absurd (let h : None ≡ Some s = at in cc)
all_at p (t ∷ rest) zero zero s all low at =
    let same : t ≡ s = (let h : Some t ≡ Some s = at in cc) in ap p (sym same) ∙ (and_parts (p t) (list_all p rest) all).0
all_at p (t ∷ rest) zero (suc i) s all low at = all_at p rest zero i s (and_parts (p t) (list_all p rest) all).1 (omega arith) at
all_at p (t ∷ rest) (suc a) zero s all low at = absurd (omega (arith, low))
all_at p (t ∷ rest) (suc a) (suc i) s all low at = all_at p rest a i s all (omega (arith, low)) at

pub among_all : (q : ℕ → Bool) (ls : List ℕ) (l : ℕ) → list_all q ls ≡ true → IsAmong l ls → q l ≡ true
among_all q [] l all among = absurd among
among_all q (x ∷ ls) l all among =
    let two = and_parts (q x) (list_all q ls) all in
    elim among [ inl same ↦ ap q (sym same) ∙ two.0 | inr later ↦ among_all q ls l two.1 later ]

among_front : (ls ms : List ℕ) (l : ℕ) → IsAmong l ls → IsAmong l (ls ++ ms)
among_front [] ms l among = absurd among
among_front (x ∷ ls) ms l among = elim among [ inl same ↦ inl same | inr later ↦ inr (among_front ls ms l later) ]

-- what a LAB set
lab_of : (start : ℕ) (g : Setting) → is_lab_from start g ≡ true → (depth : ℕ) × (place : ℕ) × (g ≡ setting.Lab depth place)
lab_of start (setting.Lab depth place) e = (depth, place, refl)
lab_of x y e = absurd (let h : false ≡ true = e in cc)

pub dec_by : (b : Bool) (m l : ℕ) → (m == l) ≡ b → (m ≡ l) ⊎ (m ≢ l)
dec_by true m l e = inl (eqb-true m l e)
dec_by false m l e = inr (λ same. let h : true ≡ false = sym (eq-eqb m l same) ∙ e in cc)

pub after-entry : (c : Context) (l : ℕ) (name : List ℕ) → ((after c (Entry l name)).uses l).setting ≡ setting.Entry
after-entry c l name =
    let uses = changed l mentioned (label_followed c.position (Entry l name) c.uses) in
    chosen (l == l) (set_by setting.Entry (uses l)) (uses l) (eq-eqb l l refl)

pub after-data : (c : Context) (l : ℕ) → ((after c (DataLabel l)).uses l).setting ≡ setting.Data
after-data c l =
    let uses = changed l mentioned (label_followed c.position (DataLabel l) c.uses) in
    chosen (l == l) (set_by setting.Data (uses l)) (uses l) (eq-eqb l l refl)

-- what a LAB set, the last statement set or one before it
lab_from : (c : Context) (s : Stmt) (l d p : ℕ) → ((after c s).uses l).setting ≡ setting.Lab d p → (s ≡ Label l) ⊎ ((c.uses l).setting ≡ setting.Lab d p)
lab_from c (Label m) l d p e = grind (arith, dec_by, after-same)
lab_from c (Entry m name) l d p e = grind (arith, dec_by, after-entry, after-same)
lab_from c (DataLabel m) l d p e = grind (arith, dec_by, after-data, after-same)
lab_from c s l d p e = inr (sym (after-same c s l (λ h. let k : None ≡ Some l = h in cc)) ∙ e)

lab_exists : (c : Context) (stmts : List Stmt) (l d p : ℕ) → ((after_all c stmts).uses l).setting ≡ setting.Lab d p →
    ((c.uses l).setting ≡ setting.Lab d p) ⊎ ((j : ℕ) × (slice_get stmts j ≡ Some (Label l)))
lab_exists c [] l d p e = inl e
lab_exists c (s ∷ rest) l d p e = elim (lab_exists (after c s) rest l d p e) [
  | inl h ↦ elim (lab_from c s l d p h) [ inl is ↦ inr (0, ap (λ (x : Stmt). Some x) is) | inr k ↦ inl k ]
  | inr q ↦ inr (suc q.0, q.1)
]

finds_label : (stmts : List Stmt) (i l : ℕ) (s : Stmt) → IsSection stmts → slice_get stmts i ≡ Some s → IsAmong l (jump_labels s ++ result_label s) →
    (place : ℕ) × (slice_get stmts place ≡ Some (Label l))
finds_label stmts i l s are at among =
    let faultless = are.are_faultless.faultless in
    let placed : ArePlaced at_start stmts = λ k t is. (keeps_in (take k stmts) (context_of (take k stmts)) t (faultless k t is)).place in
    let closed = closes_behind at_start stmts i s l (omega arith) at among placed are.ended in
    let e = closed.place in
    let c = context_of (take e stmts) in
    let set : label_not_set (take e stmts) c EndProcedure ≡ false = (keeps_in (take e stmts) c EndProcedure (faultless e EndProcedure closed.at)).set in
    let all = not-false (list_all (jumps_set c) (drop c.start (take e stmts))) set in
    let own = all_at (jumps_set c) (take e stmts) c.start i s all (omega (arith, closed.begins)) (slice_get-take stmts e i closed.later ∙ at) in
    let is_lab = among_all (λ label. is_lab_from c.start (c.uses label).setting) (jump_labels s ++ result_label s) l own among in
    let lab = lab_of c.start (c.uses l).setting is_lab in
    elim (lab_exists at_start (take e stmts) l lab.0 lab.1 lab.2) [
      | inl h ↦ absurd (let k : setting.Unset ≡ setting.Lab lab.0 lab.1 = h in cc)
      | inr q ↦ (q.0, taken_from stmts e q.0 (Label l) q.1)
    ]

pub jump_finds_its_label : JumpFindsItsLabel
jump_finds_its_label stmts i l s are at among = finds_label stmts i l s are at (among_front (jump_labels s) (result_label s) l among)

pub result_finds_its_label : ResultFindsItsLabel
result_finds_its_label stmts i l are at = finds_label stmts i l (GiveResult l) are at (inl refl)
