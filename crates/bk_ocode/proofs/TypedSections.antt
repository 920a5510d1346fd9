-- Statements that agree with a plan of labels are a section.
use Rattle.bk_ocode.specs.declared.standing.Following.TheVariants as following
use Rattle.bk_ocode.proofs.JumpDepths.{after-same, after-label, Keeps, arith, ◌≡◌, ◌≢◌, ◌⊎◌, inl, inr, ℕ, zero, suc, ◌+◌, ◌-◌, ◌≤◌, Bool, true, false, not, cond, ◌||◌, Option, Some, None, List, [], ◌∷◌, ◌++◌, length, take, drop, slice_get, is_some, refl, sym, ap, subst, ◌∙◌, if◌then◌else◌, eqb-true, eq-eqb, ne_eqb, append_assoc, append-nil, length-append, ℤ, list_all, list_any, drop-append_seam, FRAME_WORDS, OCODE_STATEMENTS, OCODE_WORDS, OcodeKind, JumpDepths, LabelUse, Position, Outer, Body, Taker, Last, Datum, Setting, GlobalEntry, Static, Stmt, Load, Address, Assign, Jump, JumpIf, Label, GiveResult, TakeResult, Entry, Save, ReturnItem, Return, EndProcedure, Switch, DataLabel, DataNumber, DataAddress, Globals, stmt_words, next_depth, least_depth, Context, at_start, changed, set_by, mentioned, followed, label_followed, start_after, after, after_all, label_set, jump_labels, result_label, data_labels, item_label, global_labels, role, may_stand, position_after, IsDepth, InRange, misplaced, is_lab_from, is_data, is_entry, jumps_set, data_set, label_not_set, is_set, is_other_lab, are_other_jumps, jumps_disagree, result_named, over, left_after, follows_badly, is_badly_followed, not_followed, own_disagrees, depths_disagree, too_long, fault_in, text_size, IsAmong, Use, unused, jumps, results, word, entry, Standing, outside, body, ended, AllJump, AllEntries, Agrees, Fits, Typed, done, enters, goes, lands, takes, returns, gives, begins, holds, points, ends, sets, times_set, TypedIsSection, JumpDepths as came, Position as position, Setting as setting, le-ltb, lt-leb, le-leb, and_from, or_from, ⊤}
use Rattle.bk_ocode.proofs.JumpPlaces.{after-entry, after-data}
use Rattle.bk_ocode.proofs.Plans.{Of, LabAt, OneDepth, Taken, AtLeast, Matches, AllMatch, changed_matches, changed_twice, word_matches, entry_matches, named_matches, Free, Clear, free_clear, followed_matches}

-- counting
set_following : (l : ℕ) (xs : List Stmt) (s : Stmt) → times_set l (xs ++ s ∷ []) ≡ times_set l xs + sets l (label_set s)
set_following l [] s = omega arith
set_following l (x ∷ xs) s = let h = set_following l xs s in omega (arith, h)

size_behind : (xs : List Stmt) (s : Stmt) → text_size (xs ++ s ∷ []) ≡ text_size xs + length (stmt_words s)
size_behind [] s = omega arith
size_behind (x ∷ xs) s = let h = size_behind xs s in omega (arith, h)

length_behind : (xs : List Stmt) (s : Stmt) → length (xs ++ s ∷ []) ≡ length xs + 1
length_behind [] s = refl
length_behind (x ∷ xs) s = let h = length_behind xs s in omega (arith, h)

own_set : (l : ℕ) → sets l (Some l) ≡ 1
own_set l = ap (λ (b : Bool). cond b 1 0) (eq-eqb l l refl)

-- What the whole of a section keeps, so many statements being read.
record Whole (plan : ℕ → Use) (before rest : List Stmt) : Type 0 where
  once : (l : ℕ) → times_set l before + times_set l rest ≤ 1
  complete : (l : ℕ) → (plan l ≡ unused → ⊥) → 1 ≤ times_set l before + times_set l rest
  short : length before + length rest ≤ OCODE_STATEMENTS
  small : text_size before + text_size rest ≤ OCODE_WORDS

whole_behind : (plan : ℕ → Use) (before : List Stmt) (s : Stmt) (rest : List Stmt) → Whole plan before (s ∷ rest) → Whole plan (before ++ s ∷ []) rest
whole_behind plan before s rest w = grind (arith, set_following, length_behind, size_behind)

-- how often a label is set, by what is known
abbrev times : Setting → ℕ
times setting.Unset = 0
times x = 1

-- the words of data that a statement names
abbrev NamesData : (ℕ → Use) → Stmt → Type 0
NamesData plan s = ((l : ℕ) → IsAmong l (data_labels s) → plan l ≡ word) × ((l : ℕ) → IsAmong l (item_label s) → (plan l ≡ word) ⊎ (plan l ≡ entry))

abbrev AllNameData : (ℕ → Use) → List Stmt → Type 0
AllNameData plan [] = ⊤
AllNameData plan (s ∷ rest) = NamesData plan s × AllNameData plan rest

-- What is known of the statements read, wherever the next one stands.
record Read (plan : ℕ → Use) (before : List Stmt) (c : Context) : Type 0 where
  count : c.count ≡ length before
  words : c.words ≡ text_size before
  set : (l : ℕ) → times (c.uses l).setting ≡ times_set l before
  entered : (l q : ℕ) → Of q (plan l) → times_set l before ≤ times_set q before
  naming : AllNameData plan before

all_data_behind : (plan : ℕ → Use) (before : List Stmt) (s : Stmt) → AllNameData plan before → NamesData plan s → AllNameData plan (before ++ s ∷ [])
all_data_behind plan [] s h n = (n, tt)
all_data_behind plan (x ∷ before) s h n = (h.0, all_data_behind plan before s h.1 n)

-- what a statement sets is set once behind it
now_set : (c : Context) (s : Stmt) (m : ℕ) → label_set s ≡ Some m → times ((after c s).uses m).setting ≡ 1
now_set c (Label l) m e = let same : l ≡ m = cc in subst (λ (x : ℕ). times ((after c (Label l)).uses x).setting ≡ 1) same (ap times (after-label c l))
now_set c (Entry l name) m e = let same : l ≡ m = cc in subst (λ (x : ℕ). times ((after c (Entry l name)).uses x).setting ≡ 1) same (ap times (after-entry c l name))
now_set c (DataLabel l) m e = let same : l ≡ m = cc in subst (λ (x : ℕ). times ((after c (DataLabel l)).uses x).setting ≡ 1) same (ap times (after-data c l))
now_set c _ m e = absurd (let h : None ≡ Some m = e in cc)

set_after : (c : Context) (s : Stmt) (before : List Stmt) (y : Option ℕ) → label_set s ≡ y → ((l : ℕ) → times (c.uses l).setting ≡ times_set l before)
    → ((l : ℕ) → times_set l before + sets l y ≤ 1) → (l : ℕ) → times ((after c s).uses l).setting ≡ times_set l before + sets l y
set_after c s before None e known once l =
    let same = after-same c s l (λ h. let n : None ≡ Some l = sym e ∙ h in cc) in
    let h : times ((after c s).uses l).setting ≡ times_set l before = ap times same ∙ known l in omega (arith, h)
set_after c s before (Some m) e known once l = grind (arith, sets, eqb-true, now_set, after-same, eq-eqb)

-- one statement more
read_behind : (plan : ℕ → Use) (before : List Stmt) (c : Context) (s : Stmt) (rest : List Stmt) → Whole plan before (s ∷ rest) → Read plan before c
    → ((l q : ℕ) → Of q (plan l) → times_set l before + sets l (label_set s) ≤ times_set q before + sets q (label_set s)) → NamesData plan s
    → Read plan (before ++ s ∷ []) (after c s)
read_behind plan before c s rest w r entered names = grind (arith, length_behind, size_behind, set_following, set_after, label_set, all_data_behind)

-- A statement that keeps each rule has no fault.
next_none : (b : Bool) (x : OcodeKind) (r : Option OcodeKind) → b ≡ false → r ≡ None → (if b then Some x else r) ≡ None
next_none true x r e h = absurd (let n : true ≡ false = e in cc)
next_none false x r e h = h

faultless : (before : List Stmt) (c : Context) (s : Stmt) → Keeps before c s → fault_in before c s ≡ None
faultless before c s k = grind (arith, next_none, too_long)

unset_once : (g : Setting) → times g ≡ 0 → is_set g ≡ false
unset_once setting.Unset e = refl
unset_once x e = absurd (omega (arith, e))

-- the counts and the labels of any statement
keeps : (plan : ℕ → Use) (before : List Stmt) (c : Context) (s : Stmt) (rest : List Stmt) → Whole plan before (s ∷ rest) → Read plan before c
    → misplaced c s ≡ false → label_not_set before c s ≡ false → depths_disagree c s ≡ false → least_depth s ≤ c.depth → next_depth c.depth s ≤ FRAME_WORDS
    → Keeps before c s
keeps plan before c s rest w r place set agree deep shallow = grind (arith, label_set, le-ltb, lt-leb, sets, own_set, unset_once)

-- labels of a procedure's jumps and results
abbrev AllOf : (ℕ → Use) → ℕ → List ℕ → Type 0
AllOf plan p [] = ⊤
AllOf plan p (l ∷ ls) = Of p (plan l) × AllOf plan p ls

abbrev AllJumpIn : (ℕ → Use) → ℕ → List Stmt → Type 0
AllJumpIn plan p [] = ⊤
AllJumpIn plan p (s ∷ rest) = AllOf plan p (jump_labels s ++ result_label s) × AllJumpIn plan p rest

all_jump_behind : (plan : ℕ → Use) (p : ℕ) (inner : List Stmt) (s : Stmt) → AllJumpIn plan p inner → AllOf plan p (jump_labels s ++ result_label s) → AllJumpIn plan p (inner ++ s ∷ [])
all_jump_behind plan p [] s h n = (n, tt)
all_jump_behind plan p (x ∷ inner) s h n = (h.0, all_jump_behind plan p inner s h.1 n)

abbrev FromStart : ℕ → Setting → Type 0
FromStart start (setting.Lab d place) = start ≤ place
FromStart start _ = ⊤

-- In procedure p: its statements are the last ones, and its labels are set in them.
record InBody (plan : ℕ → Use) (p : ℕ) (before : List Stmt) (c : Context) : Type 0 where
  front : List Stmt
  inner : List Stmt
  split : before ≡ front ++ inner
  starts : c.start ≡ length front
  jumping : AllJumpIn plan p inner
  since : (l : ℕ) → Of p (plan l) → FromStart c.start (c.uses l).setting
  opened : 1 ≤ times_set p before

abbrev Applies : (ℕ → Use) → Standing → List Stmt → Context → Type 0
Applies plan (outside true k) before c = (c.depth ≡ k) × (c.position ≡ position.InData)
Applies plan (outside false k) before c = (c.depth ≡ k) × (c.position ≡ position.Outside)
Applies plan (body p k) before c = (c.depth ≡ k) × Free plan c.position × InBody plan p before c
Applies plan ended before c = c.position ≡ position.Ended

record State (plan : ℕ → Use) (a : Standing) (before : List Stmt) (c : Context) : Type 0 where
  read : Read plan before c
  matches : AllMatch plan c.uses
  shallow : c.depth ≤ FRAME_WORDS
  applies : Applies plan a before c

-- A statement has no fault here, and leads on.
abbrev Step : (ℕ → Use) → Standing → List Stmt → Context → Stmt → Type 0
Step plan b before c s = (fault_in before c s ≡ None) × State plan b (before ++ s ∷ []) (after c s)

-- Rules that a statement in a procedure keeps.
may_body : (plan : ℕ → Use) (q : Position) → Free plan q → may_stand q Body ≡ true
may_body plan position.Inside h = refl
may_body plan position.AfterReturn h = refl
may_body plan (position.AfterLabel l) h = refl
may_body plan x h = elim h [ ]

body_placed : (plan : ℕ → Use) (c : Context) (s : Stmt) → Free plan c.position → role s ≡ Body → misplaced c s ≡ false
body_placed plan c s free r = ap (λ x. not (may_stand c.position x)) r ∙ ap not (may_body plan c.position free)

body_unset : (before : List Stmt) (c : Context) (s : Stmt) → role s ≡ Body → label_not_set before c s ≡ false
body_unset before c EndProcedure r = absurd (let e : Last ≡ Body = r in cc)
body_unset before c (Globals entries) r = absurd (let e : Outer ≡ Body = r in cc)
body_unset before c _ r = refl

left_none : (s : Stmt) → left_after None s ≡ false
left_none (TakeResult n) = refl
left_none _ = refl

follows_clear : (plan : ℕ → Use) (c : Context) (q : Position) (s : Stmt) → Clear plan q → AllMatch plan c.uses → follows_badly c q s ≡ false
follows_clear plan c (position.AfterLabel l) s clear all =
    let h : Matches (jumps clear.0 clear.1) (c.uses l) = subst (λ (u : Use). Matches u (c.uses l)) clear.2 (all l) in
    ap (λ (y : Option ℕ). left_after y s) h.2 ∙ left_none s
follows_clear plan c _ s clear all = refl

-- no result goes to a label of another use
unresulted : (plan : ℕ → Use) (c : Context) (l : ℕ) (u : Use) → plan l ≡ u → (Matches u (c.uses l) → (c.uses l).result ≡ None) → AllMatch plan c.uses → is_some (c.uses l).result ≡ false
unresulted plan c l u e none all = ap (λ (y : Option ℕ). is_some y) (none (subst (λ (x : Use). Matches x (c.uses l)) e (all l)))

jumps_unresulted : (plan : ℕ → Use) (c : Context) (p k : ℕ) (ls : List ℕ) → AllJump plan p k ls → AllMatch plan c.uses → list_any (λ label. is_some (c.uses label).result) (ls ++ []) ≡ false
jumps_unresulted plan c p k [] h all = refl
jumps_unresulted plan c p k (l ∷ ls) h all = or_from _ _ (unresulted plan c l (jumps p k) h.0 (λ m. m.2) all) (jumps_unresulted plan c p k ls h.1 all)

entries_unresulted : (plan : ℕ → Use) (c : Context) (ls : List ℕ) → AllEntries plan ls → AllMatch plan c.uses → list_any (λ label. is_some (c.uses label).result) (ls ++ []) ≡ false
entries_unresulted plan c [] h all = refl
entries_unresulted plan c (l ∷ ls) h all = or_from _ _ (unresulted plan c l entry h.0 (λ m. m.1) all) (entries_unresulted plan c ls h.1 all)

body_unresulted : (plan : ℕ → Use) (p : ℕ) (c : Context) (s : Stmt) → role s ≡ Body → Agrees plan p c.depth s → AllMatch plan c.uses → result_named c s ≡ false
body_unresulted plan p c (Jump l) r h all = jumps_unresulted plan c p c.depth (l ∷ []) (h, tt) all
body_unresulted plan p c (JumpIf truth l) r h all = jumps_unresulted plan c p (c.depth - 1) (l ∷ []) (h, tt) all
body_unresulted plan p c (Switch default cases) r h all = jumps_unresulted plan c p (c.depth - 1) (jump_labels (Switch default cases)) h all
body_unresulted plan p c (Load (Static l)) r h all = or_from _ _ (unresulted plan c l word h (λ m. m.1) all) refl
body_unresulted plan p c (Address (Static l)) r h all = or_from _ _ (unresulted plan c l word h (λ m. m.1) all) refl
body_unresulted plan p c (Assign (Static l)) r h all = or_from _ _ (unresulted plan c l word h (λ m. m.1) all) refl
body_unresulted plan p c (Entry l name) r h all = absurd (let e : Outer ≡ Body = r in cc)
body_unresulted plan p c (DataLabel l) r h all = absurd (let e : Outer ≡ Body = r in cc)
body_unresulted plan p c (DataAddress l) r h all = absurd (let e : Datum ≡ Body = r in cc)
body_unresulted plan p c (Globals entries) r h all = absurd (let e : Outer ≡ Body = r in cc)
body_unresulted plan p c _ r h all = refl

same_lab : (d : ℕ) (g : Setting) → LabAt d g → is_other_lab d g ≡ false
same_lab d (setting.Lab k place) h = ap not (eq-eqb k d h)
same_lab d x h = refl

jumps_land : (plan : ℕ → Use) (c : Context) (p k : ℕ) (ls : List ℕ) → AllJump plan p k ls → AllMatch plan c.uses → jumps_disagree c k ls ≡ false
jumps_land plan c p k [] h all = refl
jumps_land plan c p k (l ∷ ls) h all =
    let m : Matches (jumps p k) (c.uses l) = subst (λ (u : Use). Matches u (c.uses l)) h.0 (all l) in
    or_from _ _ (same_lab k (c.uses l).setting m.0) (jumps_land plan c p k ls h.1 all)

taken_well : (k n : ℕ) (u : LabelUse) (g : Setting) → n ≤ k → Taken n g u.following → not_followed k u g ≡ false
taken_well k n u (setting.Lab d place) low h = ap (is_badly_followed k) h ∙ le-ltb k n low
taken_well k n u x low h = refl

body_owns : (plan : ℕ → Use) (p : ℕ) (c : Context) (s : Stmt) → role s ≡ Body → Agrees plan p c.depth s → AllMatch plan c.uses → own_disagrees c s ≡ false
body_owns plan p c (Jump l) r h all = jumps_land plan c p c.depth (l ∷ []) (h, tt) all
body_owns plan p c (JumpIf truth l) r h all = jumps_land plan c p (c.depth - 1) (l ∷ []) (h, tt) all
body_owns plan p c (Switch default cases) r h all = jumps_land plan c p (c.depth - 1) (jump_labels (Switch default cases)) h all
body_owns plan p c (Label l) r h all = elim h [ ]
body_owns plan p c (GiveResult l) r h all =
    let m : Matches (results p h.0) (c.uses l) = subst (λ (u : Use). Matches u (c.uses l)) h.1 (all l) in
    or_from _ _ m.2 (taken_well (c.depth - 1) h.0 (c.uses l) (c.uses l).setting h.2 m.0)
body_owns plan p c (TakeResult n) r h all = absurd (let e : Taker ≡ Body = r in cc)
body_owns plan p c _ r h all = refl

body_agrees : (plan : ℕ → Use) (p : ℕ) (c : Context) (s : Stmt) → Free plan c.position → role s ≡ Body → Agrees plan p c.depth s → AllMatch plan c.uses → depths_disagree c s ≡ false
body_agrees plan p c s free r h all =
    or_from _ _ (follows_clear plan c c.position s (free_clear plan c.position free) all)
    (or_from _ _ (body_unresulted plan p c s r h all) (body_owns plan p c s r h all))

-- what a statement in a procedure leaves
body_sets : (plan : ℕ → Use) (p k : ℕ) (s : Stmt) → role s ≡ Body → Agrees plan p k s → label_set s ≡ None
body_sets plan p k (Label l) r h = elim h [ ]
body_sets plan p k (Entry l name) r h = absurd (let e : Outer ≡ Body = r in cc)
body_sets plan p k (DataLabel l) r h = absurd (let e : Outer ≡ Body = r in cc)
body_sets plan p k _ r h = refl

body_free : (plan : ℕ → Use) (p k : ℕ) (s : Stmt) → role s ≡ Body → Agrees plan p k s → Free plan (position_after s)
body_free plan p k (Label l) r h = elim h [ ]
body_free plan p k (Entry l name) r h = absurd (let e : Outer ≡ Body = r in cc)
body_free plan p k EndProcedure r h = absurd (let e : Last ≡ Body = r in cc)
body_free plan p k (DataLabel l) r h = absurd (let e : Outer ≡ Body = r in cc)
body_free plan p k (DataNumber v) r h = absurd (let e : Datum ≡ Body = r in cc)
body_free plan p k (DataAddress l) r h = absurd (let e : Datum ≡ Body = r in cc)
body_free plan p k (Globals entries) r h = absurd (let e : Outer ≡ Body = r in cc)
body_free plan p k _ r h = tt

body_starts : (c : Context) (s : Stmt) → role s ≡ Body → start_after c s ≡ c.start
body_starts c (Entry l name) r = absurd (let e : Outer ≡ Body = r in cc)
body_starts c _ r = refl

body_data : (plan : ℕ → Use) (p k : ℕ) (s : Stmt) → role s ≡ Body → Agrees plan p k s → NamesData plan s
body_data plan p k (Load (Static m)) r h = (λ l a. elim a [ inl e ↦ subst (λ (x : ℕ). plan x ≡ word) e h | inr n ↦ elim n [ ] ], λ l a. elim a [ ])
body_data plan p k (Address (Static m)) r h = (λ l a. elim a [ inl e ↦ subst (λ (x : ℕ). plan x ≡ word) e h | inr n ↦ elim n [ ] ], λ l a. elim a [ ])
body_data plan p k (Assign (Static m)) r h = (λ l a. elim a [ inl e ↦ subst (λ (x : ℕ). plan x ≡ word) e h | inr n ↦ elim n [ ] ], λ l a. elim a [ ])
body_data plan p k (DataAddress m) r h = absurd (let e : Datum ≡ Body = r in cc)
body_data plan p k _ r h = (λ l a. elim a [ ], λ l a. elim a [ ])

jumps_of : (plan : ℕ → Use) (p k : ℕ) (ls : List ℕ) → AllJump plan p k ls → AllOf plan p (ls ++ [])
jumps_of plan p k [] h = tt
jumps_of plan p k (l ∷ ls) h = (subst (λ (u : Use). Of p u) (sym h.0) refl, jumps_of plan p k ls h.1)

body_jumps : (plan : ℕ → Use) (p k : ℕ) (s : Stmt) → Agrees plan p k s → AllOf plan p (jump_labels s ++ result_label s)
body_jumps plan p k (Jump l) h = jumps_of plan p k (l ∷ []) (h, tt)
body_jumps plan p k (JumpIf truth l) h = jumps_of plan p (k - 1) (l ∷ []) (h, tt)
body_jumps plan p k (Switch default cases) h = jumps_of plan p (k - 1) (jump_labels (Switch default cases)) h
body_jumps plan p k (GiveResult l) h = (subst (λ (u : Use). Of p u) (sym h.1) refl, tt)
body_jumps plan p k (Label l) h = tt
body_jumps plan p k _ h = tt

-- the procedure goes on
in_body_behind : (plan : ℕ → Use) (p : ℕ) (before : List Stmt) (c : Context) (s : Stmt) → InBody plan p before c → start_after c s ≡ c.start
    → ((l : ℕ) → Of p (plan l) → FromStart c.start ((after c s).uses l).setting) → AllOf plan p (jump_labels s ++ result_label s)
    → InBody plan p (before ++ s ∷ []) (after c s)
in_body_behind plan p before c s i same since jumping = record {
  front = i.front;
  inner = i.inner ++ s ∷ [];
  split = ap (λ (x : List Stmt). x ++ s ∷ []) i.split ∙ append_assoc i.front i.inner (s ∷ []);
  starts = same ∙ i.starts;
  jumping = all_jump_behind plan p i.inner s i.jumping jumping;
  since = λ l of. subst (λ (x : ℕ). FromStart x ((after c s).uses l).setting) (sym same) (since l of);
  opened = let h = set_following p before s in let o = i.opened in omega (arith, h, o);
}

-- behind a statement of a procedure that sets no label
none_apart : (s : Stmt) (l : ℕ) → label_set s ≡ None → label_set s ≢ Some l
none_apart s l e h = let n : None ≡ Some l = sym e ∙ h in cc

body_step : (plan : ℕ → Use) (p k : ℕ) (before : List Stmt) (c : Context) (s : Stmt) (rest : List Stmt) → Whole plan before (s ∷ rest) → State plan (body p k) before c
    → Fits plan p k s → Step plan (body p (next_depth k s)) before c s
body_step plan p k before c s rest w a fits =
    let f : Fits plan p c.depth s = subst (λ (x : ℕ). Fits plan p x s) (sym a.applies.0) fits in
    let none = body_sets plan p c.depth s f.placed f.agrees in (
      faultless before c s (keeps plan before c s rest w a.read (body_placed plan c s a.applies.1 f.placed) (body_unset before c s f.placed)
          (body_agrees plan p c s a.applies.1 f.placed f.agrees a.matches) f.deep f.shallow),
      record {
        read = read_behind plan before c s rest w a.read (λ l q of. let h = a.read.entered l q of in let i = ap (sets l) none in let j = ap (sets q) none in omega (arith, h, i, j))
            (body_data plan p c.depth s f.placed f.agrees);
        matches = named_matches plan p c.depth c.count s _ f.placed f.agrees (followed_matches plan c.position s c.uses (free_clear plan c.position a.applies.1) a.matches);
        shallow = f.shallow;
        applies = (
          ap (λ (x : ℕ). next_depth x s) a.applies.0,
          body_free plan p c.depth s f.placed f.agrees,
          in_body_behind plan p before c s a.applies.2
              (body_starts c s f.placed)
              (λ l of. subst (λ (g : Setting). FromStart c.start g) (sym (after-same c s l (none_apart s l none))) (a.applies.2.since l of)) (body_jumps plan p c.depth s f.agrees),
        );
      },
    )

-- A LAB of procedure p.
start_low : (plan : ℕ → Use) (p : ℕ) (before : List Stmt) (c : Context) → Read plan before c → InBody plan p before c → c.start ≤ c.count
start_low plan p before c r i =
    let n = r.count in let m = i.starts in let e : length before ≡ length i.front + length i.inner = ap (λ (x : List Stmt). length x) i.split ∙ length-append i.front i.inner in
    omega (arith, n, m, e)

lab_since : (plan : ℕ → Use) (p : ℕ) (c : Context) (l : ℕ) → c.start ≤ c.count → ((m : ℕ) → Of p (plan m) → FromStart c.start (c.uses m).setting)
    → (m : ℕ) → Of p (plan m) → FromStart c.start ((after c (Label l)).uses m).setting
lab_since plan p c l low since m of = grind (arith, eqb-true, after-label, label_set, eq-eqb, after-same)

of_is : (plan : ℕ → Use) (p q l : ℕ) (u : Use) → plan l ≡ u → Of p u → Of q (plan l) → p ≡ q
of_is plan p q l (jumps r d) e of h = sym of ∙ subst (λ (x : Use). Of q x) e h
of_is plan p q l (results r n) e of h = sym of ∙ subst (λ (x : Use). Of q x) e h
of_is plan p q l y e of h = elim of [ ]

lab_entered : (plan : ℕ → Use) (p l : ℕ) (u : Use) (before : List Stmt) (rest : List Stmt) → plan l ≡ u → Of p u → Whole plan before (Label l ∷ rest) → 1 ≤ times_set p before
    → ((m q : ℕ) → Of q (plan m) → times_set m before ≤ times_set q before) → (m q : ℕ) → Of q (plan m) → times_set m before + sets m (Some l) ≤ times_set q before + sets q (Some l)
lab_entered plan p l u before rest e of w opened entered m q h = grind (arith, sets, eqb-true, of_is)

no_data : (plan : ℕ → Use) (l : ℕ) → NamesData plan (Label l)
no_data plan l = (λ m a. elim a [ ], λ m a. elim a [ ])

lab_read : (plan : ℕ → Use) (p l : ℕ) (u : Use) (before : List Stmt) (c : Context) (rest : List Stmt) → plan l ≡ u → Of p u → Whole plan before (Label l ∷ rest) → Read plan before c
    → InBody plan p before c → Read plan (before ++ Label l ∷ []) (after c (Label l))
lab_read plan p l u before c rest e of w r i = read_behind plan before c (Label l) rest w r (lab_entered plan p l u before rest e of w i.opened r.entered) (no_data plan l)

lab_body : (plan : ℕ → Use) (p l : ℕ) (before : List Stmt) (c : Context) → Read plan before c → InBody plan p before c → InBody plan p (before ++ Label l ∷ []) (after c (Label l))
lab_body plan p l before c r i = in_body_behind plan p before c (Label l) i refl (lab_since plan p c l (start_low plan p before c r i) i.since) tt

lab_fault : (plan : ℕ → Use) (p k l : ℕ) (before : List Stmt) (c : Context) (rest : List Stmt) → Whole plan before (Label l ∷ rest) → State plan (body p k) before c
    → are_other_jumps c.depth (c.uses l).jumps ≡ false → fault_in before c (Label l) ≡ None
lab_fault plan p k l before c rest w a own =
    faultless before c (Label l) (keeps plan before c (Label l) rest w a.read (body_placed plan c (Label l) a.applies.1 refl) refl
    (or_from _ _ (follows_clear plan c c.position (Label l) (free_clear plan c.position a.applies.1) a.matches) own) (omega arith) a.shallow)

one_came : (d : ℕ) (j : JumpDepths) → OneDepth d j → are_other_jumps d j ≡ false
one_came d came.Unused h = refl
one_came d (came.One k) h = ap not (eq-eqb k d h)
one_came d came.Several h = elim h [ ]

lands_step : (plan : ℕ → Use) (p k l : ℕ) (before : List Stmt) (c : Context) (rest : List Stmt) → Whole plan before (Label l ∷ rest) → State plan (body p k) before c
    → plan l ≡ jumps p k → Step plan (body p k) before c (Label l)
lands_step plan p k l before c rest w a e =
    let n : Matches (jumps p k) (c.uses l) = subst (λ (u : Use). Matches u (c.uses l)) e (a.matches l) in
    let all = followed_matches plan c.position (Label l) c.uses (free_clear plan c.position a.applies.1) a.matches in
    let m : Matches (jumps p k) (label_followed c.position (Label l) c.uses l) = subst (λ (u : Use). Matches u (label_followed c.position (Label l) c.uses l)) e (all l) in (
      lab_fault plan p k l before c rest w a (one_came c.depth (c.uses l).jumps (subst (λ (x : ℕ). OneDepth x (c.uses l).jumps) (sym a.applies.0) n.1)),
      record {
        read = lab_read plan p l (jumps p k) before c rest e refl w a.read a.applies.2;
        matches = changed_matches plan l (set_by (setting.Lab c.depth c.count)) (label_followed c.position (Label l) c.uses)
            (subst (λ (u : Use). Matches u (set_by (setting.Lab c.depth c.count) (label_followed c.position (Label l) c.uses l))) (sym e) (a.applies.0, m.1, m.2)) all;
        shallow = a.shallow;
        applies = (a.applies.0, (p, k, e), lab_body plan p l before c a.read a.applies.2);
      },
    )

-- A LAB and the RSTACK behind it.
takes_fault : (plan : ℕ → Use) (p k l n : ℕ) (before : List Stmt) (c : Context) (rest : List Stmt) → Whole plan before (Label l ∷ rest) → State plan (body p k) before c
    → plan l ≡ results p n → fault_in before c (Label l) ≡ None
takes_fault plan p k l n before c rest w a e =
    let m : Matches (results p n) (c.uses l) = subst (λ (u : Use). Matches u (c.uses l)) e (a.matches l) in
    lab_fault plan p k l before c rest w a (ap (are_other_jumps c.depth) m.1)

changed_here : (l : ℕ) (change : LabelUse → LabelUse) (uses : ℕ → LabelUse) → changed l change uses l ≡ change (uses l)
changed_here l change uses = grind (arith, eq-eqb)

over_none : (n : ℕ) (y : Option ℕ) → AtLeast n y → over n y ≡ false
over_none n None h = refl
over_none n (Some d) h = le-ltb d n h

taker_fault : (plan : ℕ → Use) (p k l n : ℕ) (before : List Stmt) (c : Context) (rest : List Stmt) → Whole plan before (TakeResult n ∷ rest) → Read plan before c
    → c.position ≡ position.AfterLabel l → c.depth ≡ k → n ≤ k → n + 1 ≤ FRAME_WORDS → AtLeast n (c.uses l).result → fault_in before c (TakeResult n) ≡ None
taker_fault plan p k l n before c rest w r at depth low high least = grind (arith, over_none, faultless, keeps, le-ltb)

takes_state : (plan : ℕ → Use) (p k l n : ℕ) (before : List Stmt) (c : Context) (rest : List Stmt) → Whole plan before (Label l ∷ TakeResult n ∷ rest) → State plan (body p k) before c
    → plan l ≡ results p n → n ≤ k → n + 1 ≤ FRAME_WORDS
    → (fault_in (before ++ Label l ∷ []) (after c (Label l)) (TakeResult n) ≡ None)
    × State plan (body p (n + 1)) ((before ++ Label l ∷ []) ++ TakeResult n ∷ []) (after (after c (Label l)) (TakeResult n))
takes_state plan p k l n before c rest w a e low high =
    let u : ℕ → LabelUse = label_followed c.position (Label l) c.uses in
    let all : AllMatch plan u = followed_matches plan c.position (Label l) c.uses (free_clear plan c.position a.applies.1) a.matches in
    let m : Matches (results p n) (u l) = subst (λ (x : Use). Matches x (u l)) e (all l) in
    let b : Context = after c (Label l) in
    let more : List Stmt = before ++ Label l ∷ [] in
    let v = whole_behind plan before (Label l) (TakeResult n ∷ rest) w in
    let read = lab_read plan p l (results p n) before c (TakeResult n ∷ rest) e refl w a.read a.applies.2 in
    let inside = lab_body plan p l before c a.read a.applies.2 in
    let least : AtLeast n (b.uses l).result = subst (λ (x : LabelUse). AtLeast n x.result) (sym (changed_here l (set_by (setting.Lab c.depth c.count)) u)) m.3 in (
      taker_fault plan p k l n more b rest v read refl a.applies.0 low high least,
      record {
        read = read_behind plan more b (TakeResult n) rest v read (λ x q of. let h = read.entered x q of in omega (arith, h)) (λ x i. elim i [ ], λ x i. elim i [ ]);
        matches = changed_twice plan l (followed (following.Takes n)) (set_by (setting.Lab c.depth c.count)) u
            (subst (λ (x : Use). Matches x (followed (following.Takes n) (set_by (setting.Lab c.depth c.count) (u l)))) (sym e) (refl, m.1, m.2, m.3)) all;
        shallow = high;
        applies = (
          refl,
          tt,
          in_body_behind plan p more b (TakeResult n) inside refl
              (λ x of. subst (λ (g : Setting). FromStart b.start g) (sym (after-same b (TakeResult n) x (none_apart (TakeResult n) x refl))) (inside.since x of)) tt,
        );
      },
    )

-- The end of a procedure: each label of its jumps and results is set in it.
lab_set : (start d : ℕ) (g : Setting) → LabAt d g → 1 ≤ times g → FromStart start g → is_lab_from start g ≡ true
lab_set start d setting.Unset h many low = absurd (omega (arith, many))
lab_set start d (setting.Lab k place) h many low = le-leb start place low
lab_set start d setting.Entry h many low = elim h [ ]
lab_set start d setting.Data h many low = elim h [ ]

taken_set : (start n : ℕ) (g : Setting) (known : LabelUse) → Taken n g known.following → 1 ≤ times g → FromStart start g → is_lab_from start g ≡ true
taken_set start n setting.Unset known h many low = absurd (omega (arith, many))
taken_set start n (setting.Lab k place) known h many low = le-leb start place low
taken_set start n setting.Entry known h many low = elim h [ ]
taken_set start n setting.Data known h many low = elim h [ ]

own_lab : (p start : ℕ) (u : Use) (known : LabelUse) → Of p u → Matches u known → 1 ≤ times known.setting → FromStart start known.setting → is_lab_from start known.setting ≡ true
own_lab p start (jumps r d) known of m many low = lab_set start d known.setting m.0 many low
own_lab p start (results r n) known of m many low = taken_set start n known.setting known m.0 many low
own_lab p x y known of m many low = elim of [ ]

own_set_all : (plan : ℕ → Use) (p : ℕ) (q : ℕ → Bool) (ls : List ℕ) → AllOf plan p ls → ((l : ℕ) → Of p (plan l) → q l ≡ true) → list_all q ls ≡ true
own_set_all plan p q [] h is = refl
own_set_all plan p q (l ∷ ls) h is = and_from _ _ (is l h.0) (own_set_all plan p q ls h.1 is)

jumps_all_set : (plan : ℕ → Use) (p : ℕ) (c : Context) (inner : List Stmt) → AllJumpIn plan p inner → ((l : ℕ) → Of p (plan l) → is_lab_from c.start (c.uses l).setting ≡ true)
    → list_all (jumps_set c) inner ≡ true
jumps_all_set plan p c [] h is = refl
jumps_all_set plan p c (s ∷ rest) h is =
    and_from _ _ (own_set_all plan p (λ label. is_lab_from c.start (c.uses label).setting) (jump_labels s ++ result_label s) h.0 is) (jumps_all_set plan p c rest h.1 is)

-- behind a procedure whose entry is not set again none of its labels is
abbrev Elsewhere : ℕ → Standing → Type 0
Elsewhere p (body q k) = q ≡ p → ⊥
Elsewhere p (outside x k) = ⊤
Elsewhere p ended = ⊤

apart_set : (plan : ℕ → Use) (p l m : ℕ) (u : Use) → plan m ≡ u → (Of p u → ⊥) → Of p (plan l) → sets l (Some m) ≡ 0
apart_set plan p l m u e never of = ap (λ (b : Bool). cond b 1 0) (ne_eqb l m (λ same. never (subst (λ (x : Use). Of p x) (ap plan same ∙ e) of)))

unset_later : {plan : ℕ → Use} {a : Standing} {rest : List Stmt} {b : Standing} (p l : ℕ) → Typed plan a rest b → Elsewhere p a → Of p (plan l) → times_set p rest ≡ 0 → times_set l rest ≡ 0
unset_later p l done away of none = refl
unset_later {plan} p l (enters {p = q} {rest = rest} e range depth more) away of none =
    let apart : q ≡ p → ⊥ = λ same. let one : sets p (Some q) ≡ 1 = ap (λ x. sets p (Some x)) same ∙ own_set p in absurd (omega (arith, none, one)) in
    let not_entry = apart_set plan p l q entry e (λ x. x) of in
    let h = unset_later p l more apart of (omega (arith, none)) in omega (arith, h, not_entry)
unset_later {plan} p l (goes {p = q} {k = k} {s = s} {rest = rest} fits more) away of none =
    let quiet = body_sets plan q k s fits.placed fits.agrees in let i = ap (sets l) quiet in let j = ap (sets p) quiet in
    let h = unset_later p l more away of (omega (arith, none, j)) in omega (arith, h, i)
unset_later {plan} p l (lands {p = q} {k = k} {l = m} e range more) away of none =
    let i = apart_set plan p l m (jumps q k) e away of in
    let h = unset_later p l more away of (omega (arith, none)) in omega (arith, h, i)
unset_later {plan} p l (takes {p = q} {l = m} {n = n} e range slot low high more) away of none =
    let i = apart_set plan p l m (results q n) e away of in
    let h = unset_later p l more away of (omega (arith, none)) in omega (arith, h, i)
unset_later p l (returns more) away of none = let h = unset_later p l more tt of (omega (arith, none)) in omega (arith, h)
unset_later p l (gives deep more) away of none = let h = unset_later p l more tt of (omega (arith, none)) in omega (arith, h)
unset_later {plan} p l (begins {l = m} e range more) away of none =
    let i = apart_set plan p l m word e (λ x. x) of in let h = unset_later p l more tt of (omega (arith, none)) in omega (arith, h, i)
unset_later p l (holds more) away of none = let h = unset_later p l more tt of (omega (arith, none)) in omega (arith, h)
unset_later p l (points e range more) away of none = let h = unset_later p l more tt of (omega (arith, none)) in omega (arith, h)
unset_later p l (ends range entries more) away of none = let h = unset_later p l more tt of (omega (arith, none)) in omega (arith, h)

end_step : (plan : ℕ → Use) (p k d : ℕ) (b : Standing) (before : List Stmt) (c : Context) (rest : List Stmt) → Whole plan before (EndProcedure ∷ rest) → State plan (body p k) before c
    → c.position ≡ position.AfterReturn → Typed plan (outside false d) rest b → Step plan (outside false k) before c EndProcedure
end_step plan p k d b before c rest w a at more =
    let i = a.applies.2 in
    let is : (l : ℕ) → Of p (plan l) → is_lab_from c.start (c.uses l).setting ≡ true = λ l of.
    let once = w.once p in let opened = i.opened in
    let later = unset_later p l more tt of (omega (arith, once, opened)) in
    let all = w.complete l (λ h. subst (λ (x : Use). Of p x) h of) in
    let known = a.read.set l in
    own_lab p c.start (plan l) (c.uses l) of (a.matches l) (omega (arith, later, all, known)) (i.since l of) in
    let inner : drop c.start before ≡ i.inner = ap (λ (x : List Stmt). drop c.start x) i.split ∙ ap (λ (x : ℕ). drop x (i.front ++ i.inner)) i.starts ∙ drop-append_seam i.front i.inner in
    let set : label_not_set before c EndProcedure ≡ false = ap (λ (x : List Stmt). not (list_all (jumps_set c) x)) inner ∙ ap not (jumps_all_set plan p c i.inner i.jumping is) in
    let placed : misplaced c EndProcedure ≡ false = ap (λ (x : Position). not (may_stand x Last)) at in
    let follows : follows_badly c c.position EndProcedure ≡ false = ap (λ (x : Position). follows_badly c x EndProcedure) at in (
      faultless before c EndProcedure (keeps plan before c EndProcedure rest w a.read placed set (or_from _ _ follows refl) (omega arith) a.shallow),
      record {
        read = read_behind plan before c EndProcedure rest w a.read (λ x q of. let h = a.read.entered x q of in omega (arith, h)) (λ x i. elim i [ ], λ x i. elim i [ ]);
        matches = followed_matches plan c.position EndProcedure c.uses (free_clear plan c.position a.applies.1) a.matches;
        shallow = a.shallow;
        applies = (a.applies.0, refl);
      },
    )

-- Outside of procedures.
outer_placed : (plan : ℕ → Use) (x : Bool) (k : ℕ) (before : List Stmt) (c : Context) → Applies plan (outside x k) before c → may_stand c.position Outer ≡ true
outer_placed plan true k before c h = ap (λ (q : Position). may_stand q Outer) h.1
outer_placed plan false k before c h = ap (λ (q : Position). may_stand q Outer) h.1

outer_clear : (plan : ℕ → Use) (x : Bool) (k : ℕ) (before : List Stmt) (c : Context) → Applies plan (outside x k) before c → Clear plan c.position
outer_clear plan true k before c h = subst (λ (q : Position). Clear plan q) (sym h.1) tt
outer_clear plan false k before c h = subst (λ (q : Position). Clear plan q) (sym h.1) tt

outer_depth : (plan : ℕ → Use) (x : Bool) (k : ℕ) (before : List Stmt) (c : Context) → Applies plan (outside x k) before c → c.depth ≡ k
outer_depth plan true k before c h = h.0
outer_depth plan false k before c h = h.0

-- a label that is no procedure's is set
outer_entered : (plan : ℕ → Use) (l : ℕ) (u : Use) (before : List Stmt) → plan l ≡ u → ((q : ℕ) → Of q u → ⊥) → ((m q : ℕ) → Of q (plan m) → times_set m before ≤ times_set q before)
    → (m q : ℕ) → Of q (plan m) → times_set m before + sets m (Some l) ≤ times_set q before + sets q (Some l)
outer_entered plan l u before e never entered m q of =
    let i = apart_set plan q m l u e (never q) of in let h = entered m q of in omega (arith, h, i)

never_set : (start : ℕ) (g : Setting) → times g ≡ 0 → FromStart start g
never_set start (setting.Lab d place) e = absurd (omega (arith, e))
never_set x y e = tt

enters_fault : (plan : ℕ → Use) (x : Bool) (k p : ℕ) (name : List ℕ) (before : List Stmt) (c : Context) (rest : List Stmt) → Whole plan before (Entry p name ∷ rest) → State plan (outside x k) before c
    → plan p ≡ entry → fault_in before c (Entry p name) ≡ None
enters_fault plan x k p name before c rest w a e = grind (arith, faultless, keeps, outer_placed, follows_clear, outer_clear, unresulted)

enters_state : (plan : ℕ → Use) (x : Bool) (k p d : ℕ) (name : List ℕ) (before : List Stmt) (c : Context) (rest : List Stmt) → Whole plan before (Entry p name ∷ Save d ∷ rest)
    → State plan (outside x k) before c → plan p ≡ entry → IsDepth d
    → (fault_in (before ++ Entry p name ∷ []) (after c (Entry p name)) (Save d) ≡ None)
    × State plan (body p d) ((before ++ Entry p name ∷ []) ++ Save d ∷ []) (after (after c (Entry p name)) (Save d))
enters_state plan x k p d name before c rest w a e depth =
    let s : Stmt = Entry p name in
    let u : ℕ → LabelUse = label_followed c.position s c.uses in
    let all : AllMatch plan u = followed_matches plan c.position s c.uses (outer_clear plan x k before c a.applies) a.matches in
    let m : Matches entry (u p) = subst (λ (y : Use). Matches y (u p)) e (all p) in
    let b : Context = after c s in
    let more : List Stmt = before ++ s ∷ [] in
    let v = whole_behind plan before s (Save d ∷ rest) w in
    let read = read_behind plan before c s (Save d ∷ rest) w a.read (outer_entered plan p entry before e (λ q h. h) a.read.entered) (λ y i. elim i [ ], λ y i. elim i [ ]) in
    let all_b : AllMatch plan b.uses = changed_twice plan p (set_by setting.Entry) mentioned u (subst (λ (y : Use). Matches y (set_by setting.Entry (mentioned (u p)))) (sym e) (tt, m.1)) all in
    let once = w.once p in
    let own = own_set p in
    let since : (l : ℕ) → Of p (plan l) → FromStart b.start ((after b (Save d)).uses l).setting = λ l of.
    let apart : label_set s ≢ Some l = λ h. let i : p ≡ l = (let j : Some p ≡ Some l = h in cc) in subst (λ (y : Use). Of p y) (ap plan (sym i) ∙ e) of in
    let same = after-same b (Save d) l (none_apart (Save d) l refl) ∙ after-same c s l apart in
    let low = a.read.entered l p of in
    let known = a.read.set l in
    subst (λ (g : Setting). FromStart b.start g) (sym same) (never_set b.start (c.uses l).setting (omega (arith, once, own, low, known))) in
    let opened = set_following p before s in
    let again = set_following p more (Save d) in (
      faultless more b (Save d) (keeps plan more b (Save d) rest v read refl refl refl (omega arith) depth.1),
      record {
        read = read_behind plan more b (Save d) rest v read (λ y q of. let h = read.entered y q of in omega (arith, h)) (λ y i. elim i [ ], λ y i. elim i [ ]);
        matches = all_b;
        shallow = depth.1;
        applies = (
          refl,
          tt,
          record {
            front = before;
            inner = s ∷ Save d ∷ [];
            split = append_assoc before (s ∷ []) (Save d ∷ []);
            starts = a.read.count;
            jumping = (tt, (tt, tt));
            since = since;
            opened = omega (arith, opened, again, own);
          },
        );
      },
    )

-- Data.
begins_step : (plan : ℕ → Use) (x : Bool) (k l : ℕ) (before : List Stmt) (c : Context) (rest : List Stmt) → Whole plan before (DataLabel l ∷ rest) → State plan (outside x k) before c
    → plan l ≡ word → Step plan (outside true k) before c (DataLabel l)
begins_step plan x k l before c rest w a e =
    let s : Stmt = DataLabel l in
    let u : ℕ → LabelUse = label_followed c.position s c.uses in
    let all : AllMatch plan u = followed_matches plan c.position s c.uses (outer_clear plan x k before c a.applies) a.matches in
    let m : Matches word (u l) = subst (λ (y : Use). Matches y (u l)) e (all l) in (
      faultless before c (DataLabel l) (keeps plan before c (DataLabel l) rest w a.read (ap not (outer_placed plan x k before c a.applies)) refl
          (or_from _ _ (follows_clear plan c c.position (DataLabel l) (outer_clear plan x k before c a.applies) a.matches)
          (or_from _ _ (or_from _ _ (unresulted plan c l word e (λ m. m.1) a.matches) refl) refl)) (omega arith) a.shallow),
      record {
        read = read_behind plan before c s rest w a.read (outer_entered plan l word before e (λ q h. h) a.read.entered) (λ y i. elim i [ ], λ y i. elim i [ ]);
        matches = changed_twice plan l (set_by setting.Data) mentioned u (subst (λ (y : Use). Matches y (set_by setting.Data (mentioned (u l)))) (sym e) (tt, m.1)) all;
        shallow = a.shallow;
        applies = (outer_depth plan x k before c a.applies, refl);
      },
    )

datum_placed : (c : Context) (s : Stmt) → c.position ≡ position.InData → role s ≡ Datum → misplaced c s ≡ false
datum_placed c s at r = ap (λ (y : Position). not (may_stand y (role s))) at ∙ ap (λ y. not (may_stand position.InData y)) r

holds_step : (plan : ℕ → Use) (k : ℕ) (v : ℤ) (before : List Stmt) (c : Context) (rest : List Stmt) → Whole plan before (DataNumber v ∷ rest) → State plan (outside true k) before c
    → Step plan (outside true k) before c (DataNumber v)
holds_step plan k v before c rest w a = (
  faultless before c (DataNumber v) (keeps plan before c (DataNumber v) rest w a.read (datum_placed c (DataNumber v) a.applies.1 refl) refl
      (or_from _ _ (follows_clear plan c c.position (DataNumber v) (outer_clear plan true k before c a.applies) a.matches) refl) (omega arith) a.shallow),
  record {
    read = read_behind plan before c (DataNumber v) rest w a.read (λ x q of. let h = a.read.entered x q of in omega (arith, h)) (λ x i. elim i [ ], λ x i. elim i [ ]);
    matches = followed_matches plan c.position (DataNumber v) c.uses (outer_clear plan true k before c a.applies) a.matches;
    shallow = a.shallow;
    applies = (a.applies.0, refl);
  },
)

points_unresulted : (plan : ℕ → Use) (c : Context) (l : ℕ) → (plan l ≡ word) ⊎ (plan l ≡ entry) → AllMatch plan c.uses → is_some (c.uses l).result ≡ false
points_unresulted plan c l (inl e) all = unresulted plan c l word e (λ m. m.1) all
points_unresulted plan c l (inr e) all = unresulted plan c l entry e (λ m. m.1) all

points_match : (plan : ℕ → Use) (l : ℕ) (uses : ℕ → LabelUse) → (plan l ≡ word) ⊎ (plan l ≡ entry) → AllMatch plan uses → AllMatch plan (changed l mentioned uses)
points_match plan l uses (inl e) all = word_matches plan l uses e all
points_match plan l uses (inr e) all = entry_matches plan l uses e all

points_step : (plan : ℕ → Use) (k l : ℕ) (before : List Stmt) (c : Context) (rest : List Stmt) → Whole plan before (DataAddress l ∷ rest) → State plan (outside true k) before c
    → (plan l ≡ word) ⊎ (plan l ≡ entry) → Step plan (outside true k) before c (DataAddress l)
points_step plan k l before c rest w a e = (
  faultless before c (DataAddress l) (keeps plan before c (DataAddress l) rest w a.read (datum_placed c (DataAddress l) a.applies.1 refl) refl
      (or_from _ _ (follows_clear plan c c.position (DataAddress l) (outer_clear plan true k before c a.applies) a.matches)
      (or_from _ _ (or_from _ _ (points_unresulted plan c l e a.matches) refl) refl)) (omega arith) a.shallow),
  record {
    read = read_behind plan before c (DataAddress l) rest w a.read (λ x q of. let h = a.read.entered x q of in omega (arith, h))
        (λ x i. elim i [ ], λ x i. elim i [ inl same ↦ subst (λ (y : ℕ). (plan y ≡ word) ⊎ (plan y ≡ entry)) same e | inr n ↦ elim n [ ] ]);
    matches = points_match plan l (label_followed c.position (DataAddress l) c.uses) e
        (followed_matches plan c.position (DataAddress l) c.uses (outer_clear plan true k before c a.applies) a.matches);
    shallow = a.shallow;
    applies = (a.applies.0, refl);
  },
)

-- The end: each word that is named is set, and each entry.
data_is : (u : Use) (known : LabelUse) → u ≡ word → Matches u known → 1 ≤ times known.setting → is_data known.setting ≡ true
data_is u known e m many = grind arith

entry_is : (u : Use) (known : LabelUse) → u ≡ entry → Matches u known → 1 ≤ times known.setting → is_entry known.setting ≡ true
entry_is u known e m many = grind (arith, is_entry)

either_true : (a b : Bool) → (a ≡ true) ⊎ (b ≡ true) → (a || b) ≡ true
either_true true b h = refl
either_true false b (inl e) = absurd (let n : false ≡ true = e in cc)
either_true false b (inr e) = e

all_among : (q : ℕ → Bool) (ls : List ℕ) → ((l : ℕ) → IsAmong l ls → q l ≡ true) → list_all q ls ≡ true
all_among q [] is = refl
all_among q (l ∷ ls) is = and_from _ _ (is l (inl refl)) (all_among q ls (λ m a. is m (inr a)))

all_entries_set : (plan : ℕ → Use) (c : Context) (ls : List ℕ) → AllEntries plan ls → ((l : ℕ) → plan l ≡ entry → is_entry (c.uses l).setting ≡ true)
    → list_all (λ label. is_entry (c.uses label).setting) ls ≡ true
all_entries_set plan c [] h is = refl
all_entries_set plan c (l ∷ ls) h is = and_from _ _ (is l h.0) (all_entries_set plan c ls h.1 is)

point_set : (plan : ℕ → Use) (c : Context) (l : ℕ) → ((m : ℕ) → plan m ≡ word → is_data (c.uses m).setting ≡ true) → ((m : ℕ) → plan m ≡ entry → is_entry (c.uses m).setting ≡ true)
    → (plan l ≡ word) ⊎ (plan l ≡ entry) → (is_data (c.uses l).setting || is_entry (c.uses l).setting) ≡ true
point_set plan c l words entries (inl e) = either_true _ _ (inl (words l e))
point_set plan c l words entries (inr e) = either_true _ _ (inr (entries l e))

data_all_set : (plan : ℕ → Use) (c : Context) (before : List Stmt) → AllNameData plan before → ((l : ℕ) → plan l ≡ word → is_data (c.uses l).setting ≡ true)
    → ((l : ℕ) → plan l ≡ entry → is_entry (c.uses l).setting ≡ true) → list_all (data_set c) before ≡ true
data_all_set plan c [] h words entries = refl
data_all_set plan c (s ∷ rest) h words entries =
    and_from _ _ (and_from _ _ (all_among (λ label. is_data (c.uses label).setting) (data_labels s) (λ l a. words l (h.0.0 l a)))
    (all_among (λ label. is_data (c.uses label).setting || is_entry (c.uses label).setting) (item_label s) (λ l a. point_set plan c l words entries (h.0.1 l a))))
    (data_all_set plan c rest h.1 words entries)

nothing_later : {plan : ℕ → Use} {rest : List Stmt} {b : Standing} (l : ℕ) → Typed plan ended rest b → times_set l rest ≡ 0
nothing_later l done = refl

ends_step : (plan : ℕ → Use) (x : Bool) (k : ℕ) (entries : List GlobalEntry) (b : Standing) (before : List Stmt) (c : Context) (rest : List Stmt)
    → Whole plan before (Globals entries ∷ rest) → State plan (outside x k) before c → AllEntries plan (global_labels (Globals entries)) → Typed plan ended rest b
    → Step plan ended before c (Globals entries)
ends_step plan x k entries b before c rest w a own more =
    let many : (l : ℕ) → (plan l ≡ unused → ⊥) → 1 ≤ times (c.uses l).setting = λ l used.
    let all = w.complete l used in let known = a.read.set l in let none = nothing_later l more in omega (arith, all, known, none) in
    let words : (l : ℕ) → plan l ≡ word → is_data (c.uses l).setting ≡ true = λ l e.
    data_is (plan l) (c.uses l) e (a.matches l) (many l (λ h. let n : word ≡ unused = sym e ∙ h in cc)) in
    let entered : (l : ℕ) → plan l ≡ entry → is_entry (c.uses l).setting ≡ true = λ l e.
    entry_is (plan l) (c.uses l) e (a.matches l) (many l (λ h. let n : entry ≡ unused = sym e ∙ h in cc)) in
    let set : label_not_set before c (Globals entries) ≡ false = ap not (and_from _ _ (data_all_set plan c before a.read.naming words entered)
    (all_entries_set plan c (global_labels (Globals entries)) own entered)) in (
      faultless before c (Globals entries) (keeps plan before c (Globals entries) rest w a.read (ap not (outer_placed plan x k before c a.applies)) set
          (or_from _ _ (follows_clear plan c c.position (Globals entries) (outer_clear plan x k before c a.applies) a.matches)
          (or_from _ _ (entries_unresulted plan c (global_labels (Globals entries)) own a.matches) refl)) (omega arith) a.shallow),
      record {
        read = read_behind plan before c (Globals entries) rest w a.read (λ y q of. let h = a.read.entered y q of in omega (arith, h)) (λ y i. elim i [ ], λ y i. elim i [ ]);
        matches = followed_matches plan c.position (Globals entries) c.uses (outer_clear plan x k before c a.applies) a.matches;
        shallow = a.shallow;
        applies = refl;
      },
    )

-- All statements, one after another.
abbrev AllFaultless : List Stmt → Context → List Stmt → Type 0
AllFaultless before c [] = ⊤
AllFaultless before c (s ∷ rest) = (fault_in before c s ≡ None) × AllFaultless (before ++ s ∷ []) (after c s) rest

abbrev Reached : Standing → Context → Type 0
Reached ended c = c.position ≡ position.Ended
Reached (outside x k) c = ⊤
Reached (body p k) c = ⊤

reached : (plan : ℕ → Use) (a : Standing) (before : List Stmt) (c : Context) → State plan a before c → Reached a c
reached plan ended before c h = h.applies
reached plan (outside x k) before c h = tt
reached plan (body p k) before c h = tt

return_fits : (plan : ℕ → Use) (p k : ℕ) → k ≤ FRAME_WORDS → Fits plan p k Return
return_fits plan p k high = record { placed = refl; ranged = tt; deep = omega arith; shallow = high; agrees = tt }

item_fits : (plan : ℕ → Use) (p k : ℕ) → 3 ≤ k → k ≤ FRAME_WORDS → Fits plan p k ReturnItem
item_fits plan p k low high = record { placed = refl; ranged = tt; deep = low; shallow = omega (arith, high); agrees = tt }

walk_on : (plan : ℕ → Use) (b e : Standing) (before : List Stmt) (c : Context) (s : Stmt) (rest : List Stmt) → Step plan b before c s
    → (State plan b (before ++ s ∷ []) (after c s) → AllFaultless (before ++ s ∷ []) (after c s) rest × Reached e (after_all c (s ∷ rest)))
    → AllFaultless before c (s ∷ rest) × Reached e (after_all c (s ∷ rest))
walk_on plan b e before c s rest one go = let h = go one.1 in ((one.0, h.0), h.1)

walk : {plan : ℕ → Use} {a : Standing} {rest : List Stmt} {b : Standing} (before : List Stmt) (c : Context) → Typed plan a rest b → Whole plan before rest → State plan a before c
    → AllFaultless before c rest × Reached b (after_all c rest)
walk {plan} {a} before c done w s = (tt, reached plan a before c s)
walk {plan} before c (enters {x = x} {k = k} {p = p} {d = d} {name = name} {rest = rest} e range depth more) w s =
    let first = enters_fault plan x k p name before c (Save d ∷ rest) w s e in
    let both = enters_state plan x k p d name before c rest w s e depth in
    let v = whole_behind plan before (Entry p name) (Save d ∷ rest) w in
    let h = walk ((before ++ Entry p name ∷ []) ++ Save d ∷ []) (after (after c (Entry p name)) (Save d)) more (whole_behind plan (before ++ Entry p name ∷ []) (Save d) rest v) both.1 in
    ((first, (both.0, h.0)), h.1)
walk {plan} before c (goes {p = p} {k = k} {s = t} {rest = rest} fits more) w s =
    walk_on plan _ _ before c t rest (body_step plan p k before c t rest w s fits) (walk (before ++ t ∷ []) (after c t) more (whole_behind plan before t rest w))
walk {plan} before c (lands {p = p} {k = k} {l = l} {rest = rest} e range more) w s =
    walk_on plan _ _ before c (Label l) rest (lands_step plan p k l before c rest w s e) (walk (before ++ Label l ∷ []) (after c (Label l)) more (whole_behind plan before (Label l) rest w))
walk {plan} before c (takes {p = p} {k = k} {l = l} {n = n} {rest = rest} e range slot low high more) w s =
    let first = takes_fault plan p k l n before c (TakeResult n ∷ rest) w s e in
    let both = takes_state plan p k l n before c rest w s e low high in
    let v = whole_behind plan before (Label l) (TakeResult n ∷ rest) w in
    let h = walk ((before ++ Label l ∷ []) ++ TakeResult n ∷ []) (after (after c (Label l)) (TakeResult n)) more (whole_behind plan (before ++ Label l ∷ []) (TakeResult n) rest v) both.1 in
    ((first, (both.0, h.0)), h.1)
walk {plan} {b = b} before c (returns {p = p} {k = k} {rest = rest} more) w s =
    let fits = return_fits plan p k (let d = s.applies.0 in let f = s.shallow in omega (arith, d, f)) in
    let v = whole_behind plan before Return (EndProcedure ∷ rest) w in
    walk_on plan _ _ before c Return (EndProcedure ∷ rest) (body_step plan p k before c Return (EndProcedure ∷ rest) w s fits) (λ t. walk_on plan _ _ (before ++ Return ∷ []) (after c Return) EndProcedure rest (end_step plan p k k b (before ++ Return ∷ []) (after c Return) rest v t refl more)
    (walk ((before ++ Return ∷ []) ++ EndProcedure ∷ []) (after (after c Return) EndProcedure) more (whole_behind plan (before ++ Return ∷ []) EndProcedure rest v)))
walk {plan} {b = b} before c (gives {p = p} {k = k} {rest = rest} deep more) w s =
    let fits = item_fits plan p k deep (let d = s.applies.0 in let f = s.shallow in omega (arith, d, f)) in
    let v = whole_behind plan before ReturnItem (EndProcedure ∷ rest) w in
    walk_on plan _ _ before c ReturnItem (EndProcedure ∷ rest) (body_step plan p k before c ReturnItem (EndProcedure ∷ rest) w s fits)
    (λ t. walk_on plan _ _ (before ++ ReturnItem ∷ []) (after c ReturnItem) EndProcedure rest (end_step plan p (k - 1) (k - 1) b (before ++ ReturnItem ∷ []) (after c ReturnItem) rest v t refl more)
    (walk ((before ++ ReturnItem ∷ []) ++ EndProcedure ∷ []) (after (after c ReturnItem) EndProcedure) more (whole_behind plan (before ++ ReturnItem ∷ []) EndProcedure rest v)))
walk {plan} before c (begins {x = x} {k = k} {l = l} {rest = rest} e range more) w s =
    walk_on plan _ _ before c (DataLabel l) rest (begins_step plan x k l before c rest w s e) (walk (before ++ DataLabel l ∷ []) (after c (DataLabel l)) more (whole_behind plan before (DataLabel l) rest w))
walk {plan} before c (holds {k = k} {v = v} {rest = rest} more) w s =
    walk_on plan _ _ before c (DataNumber v) rest (holds_step plan k v before c rest w s) (walk (before ++ DataNumber v ∷ []) (after c (DataNumber v)) more (whole_behind plan before (DataNumber v) rest w))
walk {plan} before c (points {k = k} {l = l} {rest = rest} e range more) w s =
    walk_on plan _ _ before c (DataAddress l) rest (points_step plan k l before c rest w s e) (walk (before ++ DataAddress l ∷ []) (after c (DataAddress l)) more (whole_behind plan before (DataAddress l) rest w))
walk {plan} {b = b} before c (ends {x = x} {k = k} {entries = entries} {rest = rest} range own more) w s =
    walk_on plan _ _ before c (Globals entries) rest (ends_step plan x k entries b before c rest w s own more) (walk (before ++ Globals entries ∷ []) (after c (Globals entries)) more (whole_behind plan before (Globals entries) rest w))

at_place : (before : List Stmt) (c : Context) (rest : List Stmt) → AllFaultless before c rest → (k : ℕ) (s : Stmt) → slice_get rest k ≡ Some s
    → fault_in (before ++ take k rest) (after_all c (take k rest)) s ≡ None
at_place before c [] all k s at = absurd (let h : None ≡ Some s = at in cc)
at_place before c (t ∷ rest) all zero s at = grind (arith, append-nil)
at_place before c (t ∷ rest) all (suc k) s at =
    subst (λ (x : List Stmt). fault_in x (after_all (after c t) (take k rest)) s ≡ None) (append_assoc before (t ∷ []) (take k rest))
    (at_place (before ++ t ∷ []) (after c t) rest all.1 k s at)

-- ranges
abbrev AllRanged : List Stmt → Type 0
AllRanged [] = ⊤
AllRanged (s ∷ rest) = InRange s × AllRanged rest

all_ranged : {plan : ℕ → Use} {a : Standing} {rest : List Stmt} {b : Standing} → Typed plan a rest b → AllRanged rest
all_ranged done = tt
all_ranged (enters e range depth more) = (range, (depth, all_ranged more))
all_ranged (goes fits more) = (fits.ranged, all_ranged more)
all_ranged (lands e range more) = (range, all_ranged more)
all_ranged (takes e range slot low high more) = (range, ((slot, omega (arith, high)), all_ranged more))
all_ranged (returns more) = (tt, (tt, all_ranged more))
all_ranged (gives deep more) = (tt, (tt, all_ranged more))
all_ranged (begins e range more) = (range, all_ranged more)
all_ranged (holds more) = (tt, all_ranged more)
all_ranged (points e range more) = (range, all_ranged more)
all_ranged (ends range own more) = (range, all_ranged more)

ranged_at : (stmts : List Stmt) → AllRanged stmts → (k : ℕ) (s : Stmt) → slice_get stmts k ≡ Some s → InRange s
ranged_at [] all k s at = absurd (let h : None ≡ Some s = at in cc)
ranged_at (t ∷ rest) all zero s at = let same : t ≡ s = (let h : Some t ≡ Some s = at in cc) in subst (λ (x : Stmt). InRange x) same all.0
ranged_at (t ∷ rest) all (suc k) s at = ranged_at rest all.1 k s at

nothing_matches : (u : Use) → Matches u (record { setting = setting.Unset; following = following.Nothing; jumps = came.Unused; result = None; named = false })
nothing_matches unused = refl
nothing_matches (jumps p d) = (tt, tt, refl)
nothing_matches (results p n) = (tt, refl, refl, tt)
nothing_matches word = (tt, refl)
nothing_matches entry = (tt, refl)

begun : (plan : ℕ → Use) → State plan (outside false 0) [] at_start
begun plan = grind (arith, nothing_matches)

pub typed_is_section : TypedIsSection
typed_is_section plan stmts typed once complete short small =
    let w : Whole plan [] stmts = record {
      once = λ l. let h = once l in omega (arith, h);
      complete = λ l used. let h = complete l used in omega (arith, h);
      short = omega (arith, short);
      small = omega (arith, small);
    } in
    let all = walk [] at_start typed w (begun plan) in
    let ranged = all_ranged typed in
    record {
      are_faultless = record { in_range = λ k s at. ranged_at stmts ranged k s at; faultless = λ k s at. at_place [] at_start stmts all.0 k s at };
      ended = all.1;
    }
