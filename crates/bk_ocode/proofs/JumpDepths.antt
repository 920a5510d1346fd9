-- A jump finds its label with the depth that it has.
pub use Rattle.bk_ocode.proofs.Depths.{keeps_in, context-depth, ◌≡◌, ◌≢◌, ℕ, zero, suc, ◌+◌, ◌-◌, ◌<◌, ◌==◌, Bool, true, false, not, ◌||◌, List, [], ◌∷◌, Some, None, take, slice_get, refl, sym, ◌∙◌, ap, subst, arith, if◌then◌else◌, inl, inr, eq-eqb, eqb-true, next_depth, depth_after, label_set, jump_labels, Context, at_start, changed, all_changed, with_depth, jumped, set_by, label_followed, after, after_all, context_of, AreFaultless, Setting, JumpDepths, LabelUse, Stmt, Jump, JumpIf, Label, Switch, is_other_lab, are_other_jumps, jumps_disagree, result_named, follows_badly, own_disagrees, fault_in, jump_depth, IsAmong, JumpHasItsLabelsDepth, Setting as setting, JumpDepths as depths, not-false, or_parts, ◌≤◌, ◌++◌, drop, ◌⊎◌, list_all, result_label, may_stand, position_after, start_after, mentioned, misplaced, is_lab_from, jumps_set, label_not_set, IsSection, JumpFindsItsLabel, ResultFindsItsLabel, Position, Outer, Datum, GiveResult, Entry, EndProcedure, DataLabel, DataNumber, DataAddress, Globals, and_parts, Keeps, cond, Option, length, is_some, ne_eqb, append_assoc, append-nil, length-append, ℤ, list_any, drop-append_seam, FRAME_WORDS, OCODE_STATEMENTS, OCODE_WORDS, OcodeKind, Body, Taker, Last, GlobalEntry, Static, Load, Address, Assign, TakeResult, Save, ReturnItem, Return, stmt_words, least_depth, followed, data_labels, item_label, global_labels, role, IsDepth, InRange, is_data, is_entry, data_set, is_set, over, left_after, is_badly_followed, not_followed, depths_disagree, too_long, text_size, Use, unused, jumps, results, word, entry, Standing, outside, body, ended, AllJump, AllEntries, Agrees, Fits, Typed, done, enters, goes, lands, takes, returns, gives, begins, holds, points, ends, sets, times_set, TypedIsSection, le-ltb, lt-leb, le-leb, and_from, or_from, ⊤, at_seam, get-append, nat_le, nat_lt, leb-false, ltb-false, DataFindsItsLabel, ItemFindsItsLabel, GlobalFindsItsEntry, GlobalIsLast, TextIsShort, StmtPlace, same_Some, or_cases, take-append_seam}
use Rattle.bk_ocode.proofs.LabelsOnce.{order, slice_get-take, not_before, Preserves, all_changed_keeps, after_keeps}

-- a statement that does not set the label keeps what set it
pub after-same : (c : Context) (s : Stmt) (m : ℕ) → label_set s ≢ Some m → ((after c s).uses m).setting ≡ (c.uses m).setting
after-same c s m apart =
    after_keeps (λ (u : LabelUse). u.setting ≡ (c.uses m).setting) (record { follows = λ b known h. h; mentions = λ known h. h; gives = λ d known h. h; jumps = λ d known h. h })
    c s m (λ g e of. absurd (apart of)) refl

-- what a LAB leaves
pub chosen : (b : Bool) (x y : LabelUse) → b ≡ true → (if b then x else y).setting ≡ x.setting
chosen true x y e = refl
chosen false x y e = absurd (let h : false ≡ true = e in cc)

pub after-label : (c : Context) (l : ℕ) → ((after c (Label l)).uses l).setting ≡ setting.Lab c.depth c.count
after-label c l =
    let uses = label_followed c.position (Label l) c.uses in
    chosen (l == l) (set_by (setting.Lab c.depth c.count) (uses l)) (uses l) (eq-eqb l l refl)

-- no statement sets the label: what set it stays
abbrev SetsNot : ℕ → List Stmt → Type 0
SetsNot m stmts = (k : ℕ) (s : Stmt) → slice_get stmts k ≡ Some s → label_set s ≢ Some m

after_all-same : (c : Context) (stmts : List Stmt) (m : ℕ) → SetsNot m stmts → ((after_all c stmts).uses m).setting ≡ (c.uses m).setting
after_all-same c [] m apart = refl
after_all-same c (s ∷ rest) m apart = after_all-same (after c s) rest m (λ k t is. apart (suc k) t is) ∙ after-same c s m (apart 0 s refl)

chosenP : (P : LabelUse → Type 0) (b : Bool) (x y : LabelUse) → b ≡ true → P x → P (if b then x else y)
chosenP P true x y e p = p
chosenP P false x y e p = absurd (let h : false ≡ true = e in cc)

-- jumps came with this depth, and perhaps with others
abbrev CameWith : ℕ → JumpDepths → Type 0
CameWith k depths.Unused = ⊥
CameWith k (depths.One d) = d ≡ k
CameWith k depths.Several = Unit {0}

abbrev Came : ℕ → LabelUse → Type 0
Came k known = CameWith k known.jumps

one_or_several : (b : Bool) (d k : ℕ) → (b ≡ true → d ≡ k) → CameWith k (if b then depths.One d else depths.Several)
one_or_several true d k f = f refl
one_or_several false d k f = tt

with_depth-now : (k : ℕ) (j : JumpDepths) → CameWith k (with_depth k j)
with_depth-now k depths.Unused = refl
with_depth-now k (depths.One d) = one_or_several (d == k) d k (λ e. eqb-true d k e)
with_depth-now k depths.Several = tt

with_depth-keeps : (d k : ℕ) (j : JumpDepths) → CameWith k j → CameWith k (with_depth d j)
with_depth-keeps d k depths.Unused came = absurd came
with_depth-keeps d k (depths.One e) came = one_or_several (e == d) e k (λ _. came)
with_depth-keeps d k depths.Several came = tt

jumped-keeps : (d k : ℕ) → Preserves (Came k) (jumped d)
jumped-keeps d k known came = with_depth-keeps d k known.jumps came

after-came : (k : ℕ) (c : Context) (s : Stmt) (m : ℕ) → Came k (c.uses m) → Came k ((after c s).uses m)
after-came k c s m is =
    after_keeps (Came k) (record { follows = λ b known h. h; mentions = λ known h. h; gives = λ d known h. h; jumps = λ d. jumped-keeps d k }) c s m (λ g e of known h. h) is

after_all-came : (k : ℕ) (c : Context) (stmts : List Stmt) (m : ℕ) → Came k (c.uses m) → Came k ((after_all c stmts).uses m)
after_all-came k c [] m is = is
after_all-came k c (s ∷ rest) m is = after_all-came k (after c s) rest m (after-came k c s m is)

-- a jump comes with its depth
jumped-now : (k : ℕ) (uses : ℕ → LabelUse) (l : ℕ) → Came k (changed l (jumped k) uses l)
jumped-now k uses l = chosenP (Came k) (l == l) (jumped k (uses l)) (uses l) (eq-eqb l l refl) (with_depth-now k (uses l).jumps)

all_jumped-now : (k : ℕ) (ls : List ℕ) (uses : ℕ → LabelUse) (l : ℕ) → IsAmong l ls → Came k (all_changed ls (jumped k) uses l)
all_jumped-now k [] uses l among = absurd among
all_jumped-now k (x ∷ ls) uses l among = elim among [
  | inl same ↦ all_changed_keeps (Came k) ls (jumped k) (changed x (jumped k) uses) l (jumped-keeps k k) (subst (λ (y : ℕ). Came k (changed y (jumped k) uses l)) (sym same) (jumped-now k uses l))
  | inr later ↦ all_jumped-now k ls (changed x (jumped k) uses) l later
]

now_came : (c : Context) (s : Stmt) (l : ℕ) → IsAmong l (jump_labels s) → Came (jump_depth c.depth s) ((after c s).uses l)
now_came c (Jump m) l among = grind (arith, jumped-now)
now_came c (JumpIf truth m) l among = grind (arith, jumped-now)
now_came c (Switch default cases) l among =
    all_jumped-now (c.depth - 1) (jump_labels (Switch default cases)) (label_followed c.position (Switch default cases) c.uses) l among
now_came c _ l among = absurd among

came_behind : (c : Context) (stmts : List Stmt) (i : ℕ) (s : Stmt) (l : ℕ) → slice_get stmts i ≡ Some s → IsAmong l (jump_labels s) →
    Came (jump_depth (depth_after c.depth (take i stmts)) s) ((after_all c stmts).uses l)
came_behind c [] i s l at among = absurd (let h : None ≡ Some s = at in cc)
came_behind c (t ∷ rest) zero s l at among =
    let same : t ≡ s = (let h : Some t ≡ Some s = at in cc) in
    after_all-came (jump_depth c.depth s) (after c t) rest l
    (subst (λ (x : Stmt). Came (jump_depth c.depth s) ((after c x).uses l)) (sym same) (now_came c s l among))
came_behind c (t ∷ rest) (suc i) s l at among = came_behind (after c t) rest i s l at among

-- a label behind its LAB
lab_behind : (c : Context) (stmts : List Stmt) (j l : ℕ) → slice_get stmts j ≡ Some (Label l) → ((k : ℕ) (t : Stmt) → j < k → slice_get stmts k ≡ Some t → label_set t ≢ Some l) →
    ((after_all c stmts).uses l).setting ≡ setting.Lab (depth_after c.depth (take j stmts)) (c.count + j)
lab_behind c [] j l at apart = absurd (let h : None ≡ Some (Label l) = at in cc)
lab_behind c (t ∷ rest) zero l at apart =
    let same : t ≡ Label l = (let h : Some t ≡ Some (Label l) = at in cc) in
    after_all-same (after c t) rest l (λ k u is. apart (suc k) u (omega arith) is)
    ∙ ap (λ (x : Stmt). ((after c x).uses l).setting) same ∙ after-label c l ∙ ap (λ (n : ℕ). setting.Lab c.depth n) (let z : c.count ≡ c.count + 0 = omega arith in z)
lab_behind c (t ∷ rest) (suc j) l at apart =
    lab_behind (after c t) rest j l at (λ k u low is. apart (suc k) u (omega (arith, low)) is)
    ∙ ap (λ (n : ℕ). setting.Lab (depth_after (next_depth c.depth t) (take j rest)) n) (let z : c.count + 1 + j ≡ c.count + suc j = omega arith in z)

take-of-take : (stmts : List Stmt) (j i : ℕ) → i < j → take i (take j stmts) ≡ take i stmts
take-of-take stmts zero i low = absurd (omega (arith, low))
take-of-take stmts (suc j) zero low = refl
take-of-take [] (suc j) (suc i) low = refl
take-of-take (s ∷ rest) (suc j) (suc i) low = ap (λ (t : List Stmt). s ∷ t) (take-of-take rest j i (omega (arith, low)))

agreed : (k depth : ℕ) (j : JumpDepths) → CameWith k j → are_other_jumps depth j ≡ false → k ≡ depth
agreed k depth depths.Unused came e = absurd came
agreed k depth (depths.One d) came e = sym came ∙ eqb-true d depth (not-false (d == depth) e)
agreed k depth depths.Several came e = absurd (let h : true ≡ false = e in cc)

none_other : (c : Context) (k : ℕ) (ls : List ℕ) (l : ℕ) → jumps_disagree c k ls ≡ false → IsAmong l ls → is_other_lab k (c.uses l).setting ≡ false
none_other c k [] l none among = absurd among
none_other c k (x ∷ ls) l none among =
    let both = or_parts (is_other_lab k (c.uses x).setting) (jumps_disagree c k ls) none in
    elim among [
      | inl same ↦ ap (λ (y : ℕ). is_other_lab k (c.uses y).setting) (sym same) ∙ both.0
      | inr later ↦ none_other c k ls l both.1 later
    ]

own_agrees : (c : Context) (s : Stmt) (l : ℕ) → own_disagrees c s ≡ false → IsAmong l (jump_labels s) → is_other_lab (jump_depth c.depth s) (c.uses l).setting ≡ false
own_agrees c (Jump m) l none among = none_other c c.depth (m ∷ []) l none among
own_agrees c (JumpIf truth m) l none among = none_other c (c.depth - 1) (m ∷ []) l none among
own_agrees c (Switch default cases) l none among = none_other c (c.depth - 1) (jump_labels (Switch default cases)) l none among
own_agrees c _ l none among = absurd among

-- what a statement without a fault says of its own depths
own_of : (before : List Stmt) (c : Context) (s : Stmt) → fault_in before c s ≡ None → own_disagrees c s ≡ false
own_of before c s none =
    (or_parts (result_named c s) (own_disagrees c s)
    (or_parts (follows_badly c c.position s) (result_named c s || own_disagrees c s) (keeps_in before c s none).agree).1).1

forwards : (stmts : List Stmt) (i j l : ℕ) (s : Stmt) → AreFaultless stmts → slice_get stmts i ≡ Some s → IsAmong l (jump_labels s) → slice_get stmts j ≡ Some (Label l) → i < j →
    jump_depth (depth_after 0 (take i stmts)) s ≡ depth_after 0 (take j stmts)
forwards stmts i j l s are at_i among at_j low =
    let c = context_of (take j stmts) in
    let came = came_behind at_start (take j stmts) i s l (slice_get-take stmts j i low ∙ at_i) among in
    let none = own_of (take j stmts) c (Label l) (are.faultless j (Label l) at_j) in
    ap (λ (t : List Stmt). jump_depth (depth_after 0 t) s) (sym (take-of-take stmts j i low))
    ∙ agreed (jump_depth (depth_after 0 (take i (take j stmts))) s) c.depth (c.uses l).jumps came none
    ∙ context-depth (take j stmts)

lab_agrees : (k depth place : ℕ) (g : Setting) → g ≡ setting.Lab depth place → is_other_lab k g ≡ false → k ≡ depth
lab_agrees k depth place g is none =
    let h : not (depth == k) ≡ false = ap (is_other_lab k) (sym is) ∙ none in
    sym (eqb-true depth k (not-false (depth == k) h))

pub taken_from : (stmts : List Stmt) (i k : ℕ) (t : Stmt) → slice_get (take i stmts) k ≡ Some t → slice_get stmts k ≡ Some t
taken_from stmts zero k t is = absurd (let h : None ≡ Some t = is in cc)
taken_from [] (suc i) k t is = is
taken_from (x ∷ rest) (suc i) zero t is = is
taken_from (x ∷ rest) (suc i) (suc k) t is = taken_from rest i k t is

backwards : (stmts : List Stmt) (i j l : ℕ) (s : Stmt) → AreFaultless stmts → slice_get stmts i ≡ Some s → IsAmong l (jump_labels s) → slice_get stmts j ≡ Some (Label l) → j < i →
    jump_depth (depth_after 0 (take i stmts)) s ≡ depth_after 0 (take j stmts)
backwards stmts i j l s are at_i among at_j low =
    let c = context_of (take i stmts) in
    let lab = lab_behind at_start (take i stmts) j l (slice_get-take stmts i j low ∙ at_j)
    (λ k t later at_k sets_k. not_before stmts j k l (Label l) t are at_j (taken_from stmts i k t at_k) refl sets_k later) in
    let none = own_of (take i stmts) c s (are.faultless i s at_i) in
    ap (λ (d : ℕ). jump_depth d s) (sym (context-depth (take i stmts)))
    ∙ lab_agrees (jump_depth c.depth s) (depth_after 0 (take j (take i stmts))) (0 + j) (c.uses l).setting lab (own_agrees c s l none among)
    ∙ ap (λ (t : List Stmt). depth_after 0 t) (take-of-take stmts i j low)

same_place : (stmts : List Stmt) (i l : ℕ) (s : Stmt) → slice_get stmts i ≡ Some s → IsAmong l (jump_labels s) → slice_get stmts i ≡ Some (Label l) → ⊥
same_place stmts i l s at among label =
    let same : s ≡ Label l = (let h : Some s ≡ Some (Label l) = sym at ∙ label in cc) in
    let h : IsAmong l (jump_labels (Label l)) = subst (λ (x : Stmt). IsAmong l (jump_labels x)) same among in h

pub jump_has_its_labels_depth : JumpHasItsLabelsDepth
jump_has_its_labels_depth stmts i j l s are at_i among at_j = grind (arith, order, forwards, backwards, same_place)
