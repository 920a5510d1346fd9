-- What a plan says of labels stays true of what is known of them, statement by statement.
use Rattle.bk_ocode.proofs.Terms.{arith, ◌≡◌, ℕ, ◌-◌, ◌≤◌, false, Option, Some, None, List, [], ◌∷◌, refl, sym, subst, if◌then◌else◌, eqb-true, eq-eqb, JumpDepths, LabelUse, Position, Outer, Body, Datum, Setting, Static, Stmt, Load, Address, Assign, Jump, JumpIf, Label, GiveResult, Entry, Switch, DataLabel, DataAddress, changed, all_changed, with_depth, jumped, given, least_result, mentioned, followed, what_follows, label_followed, labels_named, jump_labels, role, Use, unused, jumps, results, word, entry, AllJump, Agrees, JumpDepths as came, Position as position, Setting as setting, ⊤}
use Rattle.bk_ocode.specs.declared.standing.Following.{Following}
use Rattle.bk_ocode.specs.declared.standing.Following.TheVariants as following

-- the labels of the procedure with this entry
abbrev pub Of : ℕ → Use → Type 0
Of q (jumps p d) = p ≡ q
Of q (results p n) = p ≡ q
Of q x = ⊥

abbrev pub LabAt : ℕ → Setting → Type 0
LabAt d setting.Unset = ⊤
LabAt d (setting.Lab k place) = k ≡ d
LabAt d setting.Entry = ⊥
LabAt d setting.Data = ⊥

abbrev pub OneDepth : ℕ → JumpDepths → Type 0
OneDepth d came.Unused = ⊤
OneDepth d (came.One k) = k ≡ d
OneDepth d came.Several = ⊥

abbrev pub Taken : ℕ → Setting → Following → Type 0
Taken n setting.Unset b = ⊤
Taken n (setting.Lab k place) b = b ≡ following.Takes n
Taken n setting.Entry b = ⊥
Taken n setting.Data b = ⊥

abbrev pub AtLeast : ℕ → Option ℕ → Type 0
AtLeast n None = ⊤
AtLeast n (Some m) = n ≤ m

abbrev pub OnlyData : Setting → Type 0
OnlyData setting.Unset = ⊤
OnlyData setting.Data = ⊤
OnlyData setting.Entry = ⊥
OnlyData (setting.Lab k place) = ⊥

abbrev pub OnlyEntry : Setting → Type 0
OnlyEntry setting.Unset = ⊤
OnlyEntry setting.Entry = ⊤
OnlyEntry setting.Data = ⊥
OnlyEntry (setting.Lab k place) = ⊥

-- what is known of a label is what the plan says of it
abbrev pub Matches : Use → LabelUse → Type 0
Matches unused u = u.setting ≡ setting.Unset
Matches (jumps p d) u = LabAt d u.setting × OneDepth d u.jumps × (u.result ≡ None)
Matches (results p n) u = Taken n u.setting u.following × (u.jumps ≡ came.Unused) × (u.named ≡ false) × AtLeast n u.result
Matches word u = OnlyData u.setting × (u.result ≡ None)
Matches entry u = OnlyEntry u.setting × (u.result ≡ None)

abbrev pub AllMatch : (ℕ → Use) → (ℕ → LabelUse) → Type 0
AllMatch plan uses = (l : ℕ) → Matches (plan l) (uses l)

-- one label's use is changed
pub changed_matches : (plan : ℕ → Use) (m : ℕ) (change : LabelUse → LabelUse) (uses : ℕ → LabelUse)
    → Matches (plan m) (change (uses m)) → AllMatch plan uses → AllMatch plan (changed m change uses)
changed_matches plan m change uses h all l = grind (arith, eqb-true)

-- by a change that keeps what the plan says
use_matches : (plan : ℕ → Use) (l : ℕ) (u : Use) (change : LabelUse → LabelUse) (uses : ℕ → LabelUse) → plan l ≡ u → (Matches u (uses l) → Matches u (change (uses l)))
    → AllMatch plan uses → AllMatch plan (changed l change uses)
use_matches plan l u change uses e keeps all =
    changed_matches plan l change uses (subst (λ (x : Use). Matches x (change (uses l))) (sym e) (keeps (subst (λ (x : Use). Matches x (uses l)) e (all l)))) all

-- and changed again
pub changed_twice : (plan : ℕ → Use) (m : ℕ) (f g : LabelUse → LabelUse) (uses : ℕ → LabelUse)
    → Matches (plan m) (f (g (uses m))) → AllMatch plan uses → AllMatch plan (changed m f (changed m g uses))
changed_twice plan m f g uses h all l = grind (arith, eqb-true)

-- a jump comes
one_depth : (k : ℕ) (j : JumpDepths) → OneDepth k j → OneDepth k (with_depth k j)
one_depth k came.Unused h = refl
one_depth k (came.One d) h = grind (arith, eq-eqb)
one_depth k came.Several h = h

jump_matches : (p k : ℕ) (known : LabelUse) → Matches (jumps p k) known → Matches (jumps p k) (jumped k known)
jump_matches p k known h = (h.0, one_depth k known.jumps h.1, h.2)

jumps_match : (plan : ℕ → Use) (p k : ℕ) (ls : List ℕ) (uses : ℕ → LabelUse) → AllJump plan p k ls → AllMatch plan uses → AllMatch plan (all_changed ls (jumped k) uses)
jumps_match plan p k [] uses h all = all
jumps_match plan p k (l ∷ ls) uses h all =
    jumps_match plan p k ls (changed l (jumped k) uses) h.1 (use_matches plan l (jumps p k) (jumped k) uses h.0 (jump_matches p k (uses l)) all)

-- a RES comes
at_least : (n k : ℕ) (y : Option ℕ) → n ≤ k → AtLeast n y → AtLeast n (least_result k y)
at_least n k None low h = low
at_least n k (Some d) low h = omega (arith, low, h)

-- a word of data is named, or an entry
pub word_matches : (plan : ℕ → Use) (l : ℕ) (uses : ℕ → LabelUse) → plan l ≡ word → AllMatch plan uses → AllMatch plan (changed l mentioned uses)
word_matches plan l uses e all = use_matches plan l word mentioned uses e (λ h. h) all

pub entry_matches : (plan : ℕ → Use) (l : ℕ) (uses : ℕ → LabelUse) → plan l ≡ entry → AllMatch plan uses → AllMatch plan (changed l mentioned uses)
entry_matches plan l uses e all = use_matches plan l entry mentioned uses e (λ h. h) all

-- a statement in a procedure names labels
pub named_matches : (plan : ℕ → Use) (p k count : ℕ) (s : Stmt) (uses : ℕ → LabelUse) → role s ≡ Body → Agrees plan p k s → AllMatch plan uses → AllMatch plan (labels_named k count s uses)
named_matches plan p k count (Label l) uses r h all = elim h [ ]
named_matches plan p k count (Entry l name) uses r h all = absurd (let e : Outer ≡ Body = r in cc)
named_matches plan p k count (DataLabel l) uses r h all = absurd (let e : Outer ≡ Body = r in cc)
named_matches plan p k count (DataAddress l) uses r h all = absurd (let e : Datum ≡ Body = r in cc)
named_matches plan p k count (GiveResult l) uses r h all = use_matches plan l (results p h.0) (given (k - 1)) uses h.1 (λ m. (m.0, m.1, m.2, at_least h.0 (k - 1) (uses l).result h.2 m.3)) all
named_matches plan p k count (Jump l) uses r h all = use_matches plan l (jumps p k) (jumped k) uses h (jump_matches p k (uses l)) all
named_matches plan p k count (JumpIf truth l) uses r h all = use_matches plan l (jumps p (k - 1)) (jumped (k - 1)) uses h (jump_matches p (k - 1) (uses l)) all
named_matches plan p k count (Switch default cases) uses r h all = jumps_match plan p (k - 1) (jump_labels (Switch default cases)) uses h all
named_matches plan p k count (Load (Static l)) uses r h all = word_matches plan l uses h all
named_matches plan p k count (Address (Static l)) uses r h all = word_matches plan l uses h all
named_matches plan p k count (Assign (Static l)) uses r h all = word_matches plan l uses h all
named_matches plan p k count _ uses r h all = all

-- Where a statement of a procedure may follow, and where it may follow as far as labels go: not behind the LAB of a result.
abbrev pub Free : (ℕ → Use) → Position → Type 0
Free plan position.Inside = ⊤
Free plan position.AfterReturn = ⊤
Free plan (position.AfterLabel l) = (p : ℕ) × (d : ℕ) × (plan l ≡ jumps p d)
Free plan x = ⊥

abbrev pub Clear : (ℕ → Use) → Position → Type 0
Clear plan (position.AfterLabel l) = (p : ℕ) × (d : ℕ) × (plan l ≡ jumps p d)
Clear plan _ = ⊤

pub free_clear : (plan : ℕ → Use) (q : Position) → Free plan q → Clear plan q
free_clear plan (position.AfterLabel l) h = h
free_clear plan _ h = tt

pub followed_matches : (plan : ℕ → Use) (q : Position) (s : Stmt) (uses : ℕ → LabelUse) → Clear plan q → AllMatch plan uses → AllMatch plan (label_followed q s uses)
followed_matches plan (position.AfterLabel l) s uses free all = use_matches plan l (jumps free.0 free.1) (followed (what_follows s)) uses free.2 (λ h. h) all
followed_matches plan _ s uses free all = all
