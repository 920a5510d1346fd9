-- Labels are set once.
use Rattle.bk_ocode.specs.declared.standing.Following.{Following}
use Rattle.bk_ocode.proofs.Depths.{keeps_in, ◌≡◌, ◌≢◌, ℕ, zero, suc, ◌-◌, ◌<◌, ◌==◌, Bool, true, false, List, [], ◌∷◌, Some, None, take, drop, slice_get, refl, sym, ◌∙◌, ap, subst, arith, if◌then◌else◌, ◌⊎◌, eq-eqb, ne_eqb, label_set, jump_labels, other_labels, Context, at_start, changed, all_changed, jumped, given, mentioned, set_by, followed, what_follows, label_followed, labels_named, after, after_all, context_of, is_set, set_again, AreFaultless, is_label, from_label, LabelsAreSetOnce, LabelHasOnePlace, Position, LabelUse, Stmt, Load, Address, Assign, Jump, JumpIf, Label, GiveResult, Entry, Switch, DataLabel, DataAddress, Position as position, Setting as setting, Setting, eqb-true}

-- a property of one label's use that a change keeps
abbrev pub Preserves : (LabelUse → Type 0) → (LabelUse → LabelUse) → Type 0
Preserves P change = (known : LabelUse) → P known → P (change known)

-- Each change keeps it, but perhaps not the one that sets the label.
pub record Kept (P : LabelUse → Type 0) : Type 0 where
  pub follows : (b : Following) → Preserves P (followed b)
  pub mentions : Preserves P mentioned
  pub gives : (d : ℕ) → Preserves P (given d)
  pub jumps : (d : ℕ) → Preserves P (jumped d)

module _ (P : LabelUse → Type 0) where
  changed_keeps : (l : ℕ) (change : LabelUse → LabelUse) (uses : ℕ → LabelUse) (m : ℕ) → (Some l ≡ Some m → Preserves P change) → P (uses m) → P (changed l change uses m)
  changed_keeps l change uses m keeps is = by_test (m == l) refl
    where
      by_test : (b : Bool) → (m == l) ≡ b → P (if b then change (uses m) else uses m)
      by_test true e = keeps (ap (λ (x : ℕ). Some x) (sym (eqb-true m l e))) (uses m) is
      by_test false e = is

  pub all_changed_keeps : (ls : List ℕ) (change : LabelUse → LabelUse) (uses : ℕ → LabelUse) (m : ℕ) → Preserves P change → P (uses m) → P (all_changed ls change uses m)
  all_changed_keeps [] change uses m keeps is = is
  all_changed_keeps (l ∷ ls) change uses m keeps is = all_changed_keeps ls change (changed l change uses) m keeps (changed_keeps l change uses m (λ e. keeps) is)

  -- what sets a label
  abbrev Sets : Stmt → ℕ → Type 0
  Sets s m = (g : Setting) → is_set g ≡ true → label_set s ≡ Some m → Preserves P (set_by g)

  module _ (h : Kept P) where
    followed_keeps : (p : Position) (s : Stmt) (uses : ℕ → LabelUse) (m : ℕ) → P (uses m) → P (label_followed p s uses m)
    followed_keeps (position.AfterLabel l) s uses m is = changed_keeps l (followed (what_follows s)) uses m (λ e. h.follows (what_follows s)) is
    followed_keeps p s uses m is = is

    named_keeps : (k count : ℕ) (s : Stmt) (uses : ℕ → LabelUse) (m : ℕ) → Sets s m → P (uses m) → P (labels_named k count s uses m)
    named_keeps k count (Label l) uses m sets is = changed_keeps l (set_by (setting.Lab k count)) uses m (sets (setting.Lab k count) refl) is
    named_keeps k count (Entry l name) uses m sets is =
        changed_keeps l (set_by setting.Entry) (changed l mentioned uses) m (sets setting.Entry refl) (changed_keeps l mentioned uses m (λ e. h.mentions) is)
    named_keeps k count (DataLabel l) uses m sets is =
        changed_keeps l (set_by setting.Data) (changed l mentioned uses) m (sets setting.Data refl) (changed_keeps l mentioned uses m (λ e. h.mentions) is)
    named_keeps k count (GiveResult l) uses m sets is = changed_keeps l (given (k - 1)) uses m (λ e. h.gives (k - 1)) is
    named_keeps k count (Jump l) uses m sets is = changed_keeps l (jumped k) uses m (λ e. h.jumps k) is
    named_keeps k count (JumpIf truth l) uses m sets is = changed_keeps l (jumped (k - 1)) uses m (λ e. h.jumps (k - 1)) is
    named_keeps k count (Switch default cases) uses m sets is = all_changed_keeps (jump_labels (Switch default cases)) (jumped (k - 1)) uses m (h.jumps (k - 1)) is
    named_keeps k count (Load from) uses m sets is = all_changed_keeps (other_labels (Load from)) mentioned uses m h.mentions is
    named_keeps k count (Address of) uses m sets is = all_changed_keeps (other_labels (Address of)) mentioned uses m h.mentions is
    named_keeps k count (Assign to) uses m sets is = all_changed_keeps (other_labels (Assign to)) mentioned uses m h.mentions is
    named_keeps k count (DataAddress l) uses m sets is = changed_keeps l mentioned uses m (λ e. h.mentions) is
    named_keeps k count _ uses m sets is = is

    pub after_keeps : (c : Context) (s : Stmt) (m : ℕ) → Sets s m → P (c.uses m) → P ((after c s).uses m)
    after_keeps c s m sets is = named_keeps c.depth c.count s (label_followed c.position s c.uses) m sets (followed_keeps c.position s c.uses m is)

-- the label is set
abbrev IsSetIn : (ℕ → LabelUse) → ℕ → Type 0
IsSetIn uses m = is_set (uses m).setting ≡ true

after-keeps : (c : Context) (s : Stmt) (m : ℕ) → IsSetIn c.uses m → IsSetIn (after c s).uses m
after-keeps c s m is =
    after_keeps (λ (u : LabelUse). is_set u.setting ≡ true) (record { follows = λ b known h. h; mentions = λ known h. h; gives = λ d known h. h; jumps = λ d known h. h })
    c s m (λ g e of known h. e) is

after_all-keeps : (c : Context) (stmts : List Stmt) (m : ℕ) → IsSetIn c.uses m → IsSetIn (after_all c stmts).uses m
after_all-keeps c [] m is = is
after_all-keeps c (s ∷ rest) m is = after_all-keeps (after c s) rest m (after-keeps c s m is)

-- what a statement sets is set behind it
chosen : (b : Bool) (x y : LabelUse) → b ≡ true → is_set x.setting ≡ true → is_set (if b then x else y).setting ≡ true
chosen true x y e is = is
chosen false x y e is = absurd (let h : false ≡ true = e in cc)

now_set : (l : ℕ) (change : LabelUse → LabelUse) (uses : ℕ → LabelUse) → ((known : LabelUse) → is_set (change known).setting ≡ true) → IsSetIn (changed l change uses) l
now_set l change uses sets = chosen (l == l) (change (uses l)) (uses l) (eq-eqb l l refl) (sets (uses l))

sets : (c : Context) (s : Stmt) (l : ℕ) → label_set s ≡ Some l → IsSetIn (after c s).uses l
sets c (Label m) l is = let same : m ≡ l = cc in subst (λ x. IsSetIn (after c (Label m)).uses x) same (now_set m (set_by (setting.Lab c.depth c.count)) (label_followed c.position (Label m) c.uses) (λ known. refl))
sets c (Entry m name) l is = let same : m ≡ l = cc in subst (λ x. IsSetIn (after c (Entry m name)).uses x) same (now_set m (set_by setting.Entry) (changed m mentioned (label_followed c.position (Entry m name) c.uses)) (λ known. refl))
sets c (DataLabel m) l is = let same : m ≡ l = cc in subst (λ x. IsSetIn (after c (DataLabel m)).uses x) same (now_set m (set_by setting.Data) (changed m mentioned (label_followed c.position (DataLabel m) c.uses)) (λ known. refl))
sets c _ l is = absurd (let h : None ≡ Some l = is in cc)

set_following : (c : Context) (stmts : List Stmt) (i : ℕ) (s : Stmt) (l : ℕ) → slice_get stmts i ≡ Some s → label_set s ≡ Some l → IsSetIn (after_all c stmts).uses l
set_following c [] i s l at is = absurd (let h : None ≡ Some s = at in cc)
set_following c (t ∷ rest) zero s l at is =
    let same : t ≡ s = (let h : Some t ≡ Some s = at in cc) in
    after_all-keeps (after c t) rest l (sets c t l (ap label_set same ∙ is))
set_following c (t ∷ rest) (suc i) s l at is = set_following (after c t) rest i s l at is

pub slice_get-take : (stmts : List Stmt) (j i : ℕ) → i < j → slice_get (take j stmts) i ≡ slice_get stmts i
slice_get-take stmts zero i low = absurd (omega (arith, low))
slice_get-take [] (suc j) i low = refl
slice_get-take (s ∷ rest) (suc j) zero low = refl
slice_get-take (s ∷ rest) (suc j) (suc i) low = slice_get-take rest j i (omega (arith, low))

pub not_before : (stmts : List Stmt) (i j l : ℕ) (s t : Stmt) → AreFaultless stmts → slice_get stmts i ≡ Some s → slice_get stmts j ≡ Some t → label_set s ≡ Some l → label_set t ≡ Some l → i < j → ⊥
not_before stmts i j l s t are at_i at_j sets_s sets_t low =
    let c = context_of (take j stmts) in
    let k = keeps_in (take j stmts) c t (are.faultless j t at_j) in
    let is : IsSetIn c.uses l = set_following at_start (take j stmts) i s l (slice_get-take stmts j i low ∙ at_i) sets_s in
    let once : set_again c (Some l) ≡ false = ap (set_again c) (sym sets_t) ∙ k.once in
    let h : true ≡ false = sym is ∙ once in cc

pub order : (i j : ℕ) → (i < j) ⊎ ((j < i) ⊎ (i ≡ j))
order i j = grind arith

pub labels_are_set_once : LabelsAreSetOnce
labels_are_set_once stmts i j l s t are at_i at_j sets_s sets_t = grind (arith, order, not_before)

pub not_label : (l : ℕ) (s : Stmt) → Some s ≢ Some (Label l) → is_label l s ≡ false
not_label l (Label m) other = ne_eqb m l (λ same. other (ap (λ x. Some (Label x)) same))
not_label l _ other = refl

-- the first LAB of a label is the place where a jump goes on
first_label : (stmts : List Stmt) (i l : ℕ) → slice_get stmts i ≡ Some (Label l) → ((j : ℕ) → j < i → slice_get stmts j ≢ Some (Label l)) → from_label stmts l ≡ Some (drop i stmts)
first_label [] i l at none = absurd (let h : None ≡ Some (Label l) = at in cc)
first_label (s ∷ rest) zero l at none = grind (arith, eq-eqb)
first_label (s ∷ rest) (suc i) l at none =
    passed (is_label l s) (not_label l s (none 0 (omega arith))) ∙ first_label rest i l at (λ j low. none (suc j) (omega (arith, low)))
  where
    passed : (b : Bool) → b ≡ false → (if b then Some (s ∷ rest) else from_label rest l) ≡ from_label rest l
    passed true e = absurd (let h : true ≡ false = e in cc)
    passed false e = refl

pub label_has_one_place : LabelHasOnePlace
label_has_one_place stmts i l are at =
    first_label stmts i l at (λ j low is. not_before stmts j i l (Label l) (Label l) are is at refl refl low)
