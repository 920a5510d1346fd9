-- What names in scope mean at a place of a section without faults, and that a label and a static word that are in scope have a
-- target in their plan.
use Rattle.bk_trans.proofs.Words.{arith, ◌≡◌, ◌⊎◌, inl, inr, ℕ, ◌+◌, ◌≤◌, Bool, true, false, cond, Option, Some, None, List, [], ◌∷◌, ◌++◌, length, refl, sym, ap, subst, ◌∙◌, OCODE_LABEL, Command, Commands, Items, Definitions, label, case_of, default, when, test, while, switch, block, repeat, repeat_while, no_commands, also, no_declarations, no_items, item, routine, function, variables, no_definitions, define, Bound, Static, Label, Enclosing, Binding, bound_in, bind, bind_all, is_global, looping, switching, labels_of, labels_of_each, Spot, past, numbered, following, after_done, after_constant, after_one_defined, labels_in_scope, procedure_in_scope, procedures_in_scope, statics_in_scope, place_after_one_defined, IsLabel, IsDepth, Use, Every, every_front, every_back, bytes_eq, bytes_eq-Decides, Goal, Target, meant, statics_named, term_named, condition_named, command_named, commands_named, definition_named, definitions_named, labels, labels_if, labels_in, labels_through, labels_of_procedure, labels_of_definition, labels_of_definitions, after_definition, Part, label_place, target_of, target_of_word, parts_of_items, parts, parts_if, parts_in, parts_through, parts_of_definition, parts_of_definitions, goal, goal_of}
use Rattle.bk_ocode.specs.Typing as typing
use Rattle.bk_trans.proofs.Good.{IsGoal, IsWord, Mark, marks, marks_if, marks_in, marks_through, AllRight, Right, no_more}
use Rattle.bk_trans.proofs.Sections.{part_marks, name_marks}

-- what every name in scope means
abbrev pub Sees : (Bound → Type 0) → List Binding → Type 0
Sees P bs = (y : List ℕ) (z : Bound) → bound_in bs y ≡ Some z → P z

some_same : (y z : Bound) → Some y ≡ Some z → y ≡ z
some_same y z e = cc

chosen : (P : Bound → Type 0) (q : Bool) (x : Option Bound) (y z : Bound) → P y → (x ≡ Some z → P z) → cond q (Some y) x ≡ Some z → P z
chosen P true x y z h g e = subst P (some_same y z e) h
chosen P false x y z h g e = g e

pub sees_none : (P : Bound → Type 0) → Sees P []
sees_none P y z e = absurd (let n : None ≡ Some z = e in cc)

pub sees_bind : (P : Bound → Type 0) (x : List ℕ) (b : Bound) (bs : List Binding) → P b → Sees P bs → Sees P (bind x b bs)
sees_bind P x b bs h all y z e = chosen P (bytes_eq x y) (bound_in bs y) b z h (all y z) e

abbrev pub AllMean : (Bound → Type 0) → List Binding → Type 0
AllMean P xs = Every (λ x. P x.bound) xs

pub sees_all : (P : Bound → Type 0) (xs bs : List Binding) → AllMean P xs → Sees P bs → Sees P (bind_all xs bs)
sees_all P [] bs h all = all
sees_all P (x ∷ xs) bs h all = sees_all P xs (x ∷ bs) h.1 (sees_bind P x.name x.bound bs h.0 all)

-- labels that came into scope together
abbrev pub Among : List ℕ → List (List ℕ) → Type 0
Among y [] = ⊥
Among y (x ∷ xs) = (x ≡ y) ⊎ Among y xs

pub among_first : (y : List ℕ) (xs ys : List (List ℕ)) → Among y (xs ++ ys) → Among y xs ⊎ Among y ys
among_first y [] ys h = inr h
among_first y (x ∷ xs) ys (inl e) = inl (inl e)
among_first y (x ∷ xs) ys (inr h) = elim (among_first y xs ys h) [ inl i ↦ inl (inr i) | inr j ↦ inr j ]

abbrev pub Looked : Option Bound → Option Bound → Type 0 → (ℕ → Bound) → Type 0
Looked x y A f = (x ≡ y) ⊎ (A × (i : ℕ) × (x ≡ Some (f i)))

same_name : (x y : List ℕ) (q : Bool) → bytes_eq x y ≡ q → q ≡ true → x ≡ y
same_name x y q e h = (bytes_eq-Decides x y).0 (e ∙ h)

taken : (x : Option Bound) (q : Bool) (b : Bound) (y : Option Bound) → q ≡ true → x ≡ cond q (Some b) y → x ≡ Some b
taken x true b y h e = e
taken x false b y h e = absurd (let n : false ≡ true = h in cc)

left : (x : Option Bound) (q : Bool) (b : Bound) (y : Option Bound) → q ≡ false → x ≡ cond q (Some b) y → x ≡ y
left x true b y h e = absurd (let n : true ≡ false = h in cc)
left x false b y h e = e

pub look_label : (k n : ℕ) (xs : List (List ℕ)) (bs : List Binding) (y : List ℕ) → Looked (bound_in (labels_in_scope k n xs bs) y) (bound_in bs y) (Among y xs) (λ i. Label k i)
look_label k n [] bs y = inl refl
look_label k n (x ∷ xs) bs y = elim (look_label k (n + 1) xs (bind x (Label k n) bs) y) [
  | inr h ↦ inr (inr h.0, h.1, h.2)
  | inl e ↦ pick (bytes_eq x y) refl e
]
  where
    pick : (q : Bool) → bytes_eq x y ≡ q → bound_in (labels_in_scope k (n + 1) xs (bind x (Label k n) bs)) y ≡ cond (bytes_eq x y) (Some (Label k n)) (bound_in bs y)
        → Looked (bound_in (labels_in_scope k n (x ∷ xs) bs) y) (bound_in bs y) (Among y (x ∷ xs)) (λ i. Label k i)
    pick true h e = inr (inl (same_name x y true h refl), n, taken _ (bytes_eq x y) (Label k n) (bound_in bs y) h e)
    pick false h e = inl (left _ (bytes_eq x y) (Label k n) (bound_in bs y) h e)

pub sees_labels : (P : Bound → Type 0) (k n : ℕ) (xs : List (List ℕ)) (bs : List Binding) → Sees P bs
    → ((y : List ℕ) (i : ℕ) → Among y xs → bound_in (labels_in_scope k n xs bs) y ≡ Some (Label k i) → P (Label k i)) → Sees P (labels_in_scope k n xs bs)
sees_labels P k n xs bs all own y z e = elim (look_label k n xs bs y) [
  | inl same ↦ all y z (sym same ∙ e)
  | inr h ↦ subst P (some_same (Label k h.1) z (sym h.2 ∙ e)) (own y h.1 h.0 h.2)
]

-- procedures of a LET
abbrev pub procedure_names : Definitions → List (List ℕ)
procedure_names no_definitions = []
procedure_names (define (routine l x fs c) ds) = x ∷ procedure_names ds
procedure_names (define (function l x fs e) ds) = x ∷ procedure_names ds
procedure_names (define (variables l xs is) ds) = procedure_names ds

abbrev pub AmongProcedures : List ℕ → Definitions → Type 0
AmongProcedures y ds = Among y (procedure_names ds)

look_one : (n : ℕ) (x y : List ℕ) (bs : List Binding) (g : Bool) → Looked (bound_in (cond g bs (bind x (Static n) bs)) y) (bound_in bs y) (x ≡ y) (λ i. Static i)
look_one n x y bs true = inl refl
look_one n x y bs false = pick (bytes_eq x y) refl
  where
    pick : (q : Bool) → bytes_eq x y ≡ q → Looked (cond (bytes_eq x y) (Some (Static n)) (bound_in bs y)) (bound_in bs y) (x ≡ y) (λ i. Static i)
    pick true h = inr (same_name x y true h refl, n, taken _ (bytes_eq x y) (Static n) (bound_in bs y) h refl)
    pick false h = inl (left _ (bytes_eq x y) (Static n) (bound_in bs y) h refl)

look_more : (y : List ℕ) (A : Type 0) (B : Type 0) (u v w : Option Bound) → Looked u v A (λ i. Static i) → Looked v w B (λ i. Static i) → Looked u w (B ⊎ A) (λ i. Static i)
look_more y A B u v w (inl e) (inl f) = inl (e ∙ f)
look_more y A B u v w (inl e) (inr h) = inr (inl h.0, h.1, e ∙ h.2)
look_more y A B u v w (inr h) g = inr (inr h.0, h.1, h.2)

pub look_procedure : (n : ℕ) (ds : Definitions) (bs : List Binding) (y : List ℕ) → Looked (bound_in (procedures_in_scope n ds bs) y) (bound_in bs y) (AmongProcedures y ds) (λ i. Static i)
look_procedure n no_definitions bs y = inl refl
look_procedure n (define (routine l x fs c) ds) bs y =
    look_more y (AmongProcedures y ds) (x ≡ y) _ _ _ (look_procedure (n + 1) ds (procedure_in_scope n x bs) y) (look_one n x y bs (is_global (bound_in bs x)))
look_procedure n (define (function l x fs e) ds) bs y =
    look_more y (AmongProcedures y ds) (x ≡ y) _ _ _ (look_procedure (n + 1) ds (procedure_in_scope n x bs) y) (look_one n x y bs (is_global (bound_in bs x)))
look_procedure n (define (variables l xs is) ds) bs y = look_procedure n ds bs y

pub sees_procedures : (P : Bound → Type 0) (n : ℕ) (ds : Definitions) (bs : List Binding) → Sees P bs
    → ((y : List ℕ) (i : ℕ) → AmongProcedures y ds → bound_in (procedures_in_scope n ds bs) y ≡ Some (Static i) → P (Static i)) → Sees P (procedures_in_scope n ds bs)
sees_procedures P n ds bs all own y z e = elim (look_procedure n ds bs y) [
  | inl same ↦ all y z (sym same ∙ e)
  | inr h ↦ subst P (some_same (Static h.1) z (sym h.2 ∙ e)) (own y h.1 h.0 h.2)
]

-- A part is right: its targets are those that are found by their numbers, and the plan has its marks.
abbrev pub Found : List Target → Target → Type 0
Found ts x = goal_of ts x.number ≡ goal x.label x.depth

abbrev pub AllFound : List Target → List Target → Type 0
AllFound ts xs = Every (Found ts) xs

abbrev pub PartRight : (ℕ → Use) → List Target → Part → Type 0
PartRight plan ts x = AllFound ts (target_of x) × AllRight plan (part_marks x)

abbrev pub PartsRight : (ℕ → Use) → List Target → List Part → Type 0
PartsRight plan ts xs = Every (PartRight plan ts) xs

-- a label of these commands is found
meant_is : (y : Option Bound) (b : Bound) → y ≡ Some b → meant y ≡ b
meant_is None b e = absurd (let n : None ≡ Some b = e in cc)
meant_is (Some a) b e = some_same a b e

place_found : (plan : ℕ → Use) (ts : List Target) (q k d n i : ℕ) (b : Bound) → b ≡ Label k i → PartRight plan ts (label_place n d b) → plan n ≡ typing.jumps q d → IsLabel n → IsDepth d → IsGoal plan q (goal_of ts i)
place_found plan ts q k d n i b e r is low deep =
    let h : PartRight plan ts (label_place n d (Label k i)) = subst (λ (x : Bound). PartRight plan ts (label_place n d x)) e r in
    subst (λ (g : Goal). IsGoal plan q g) (sym h.0.0) (is, low, deep)

mutual
  pub label_found : (plan : ℕ → Use) (ts : List Target) (q k i : ℕ) (y : List ℕ) (bs : List Binding) (p : Enclosing) (s : Spot) (c : Command) (d n : ℕ) → bound_in bs y ≡ Some (Label k i) → IsDepth d
      → 1 ≤ n → n + labels_in (command_named bs p s c) ≤ OCODE_LABEL + 1 → Among y (labels_of c) → PartsRight plan ts (parts_in d n (command_named bs p s c))
      → AllRight plan (marks_in q d n (command_named bs p s c)) → IsGoal plan q (goal_of ts i)
  label_found plan ts q k i y bs p s (label l x c) d n e deep low high (inl same) a r =
      place_found plan ts q k d n i (meant (bound_in bs x)) (meant_is (bound_in bs x) (Label k i) (ap (bound_in bs) same ∙ e)) a.0 r.0 (low, omega (arith, high)) deep
  label_found plan ts q k i y bs p s (label l x c) d n e deep low high (inr among) a r =
      label_found plan ts q k i y bs p (past 1 s) c d (n + 1) e deep (omega (arith, low)) (omega (arith, high)) among a.1 r.1
  label_found plan ts q k i y bs p s (case_of l f c) d n e deep low high among a r =
      label_found plan ts q k i y bs p (after_constant f (past 1 s)) c d (n + 1) e deep (omega (arith, low)) (omega (arith, high)) among a r.1
  label_found plan ts q k i y bs p s (default l c) d n e deep low high among a r =
      label_found plan ts q k i y bs p (past 1 s) c d (n + 1) e deep (omega (arith, low)) (omega (arith, high)) among a r.1
  label_found plan ts q k i y bs p s (when l b f c) d n e deep low high among a r =
      let h = condition_named bs p s f in
      label_found plan ts q k i y bs p (following f s) c d (n + 1 + labels_if h) e deep (omega (arith, low)) (omega (arith, high)) among (every_back (PartRight plan ts) (parts_if d (n + 1) h) _ a)
      (every_back (Right plan) (marks_if q d (n + 1) h _) _ r.1)
  label_found plan ts q k i y bs p s (test l f c x) d n e deep low high among a r =
      let h = condition_named bs p s f in
      let first = command_named bs p (following f s) c in
      let ms = marks_if q d (n + 2) h false ++ marks_in q d (n + 2 + labels_if h) first in
      let qs = parts_if d (n + 2) h ++ parts_in d (n + 2 + labels_if h) first in
      elim (among_first y (labels_of c) (labels_of x) among) [
        | inl one ↦
            label_found plan ts q k i y bs p (following f s) c d (n + 2 + labels_if h) e deep (omega (arith, low)) (omega (arith, high)) one (every_back (PartRight plan ts) (parts_if d (n + 2) h) _ (every_front (PartRight plan ts) qs _ a))
            (every_back (Right plan) (marks_if q d (n + 2) h false) _ (every_front (Right plan) ms _ r.1.1))
        | inr two ↦
            label_found plan ts q k i y bs p (after_done c (following f s)) x d (n + 2 + labels_if h + labels_in first) e deep (omega (arith, low)) (omega (arith, high)) two (every_back (PartRight plan ts) qs _ a)
            (every_back (Right plan) ms _ r.1.1)
      ]
  label_found plan ts q k i y bs p s (while l b f c) d n e deep low high among a r =
      let h = condition_named bs p s f in
      label_found plan ts q k i y bs (looping p) (following f s) c d (n + 3 + labels_if h) e deep (omega (arith, low)) (omega (arith, high)) among (every_back (PartRight plan ts) (parts_if d (n + 3) h) _ a)
      (every_front (Right plan) (marks_in q d (n + 3 + labels_if h) (command_named bs (looping p) (following f s) c)) _ r.1.1.1)
  label_found plan ts q k i y bs p s (switch l f c) d n e deep low high among a r =
      let h = term_named bs p s f in
      label_found plan ts q k i y bs (switching (following f s).number p) (numbered 1 (following f s)) c d (n + 1 + labels h) e deep (omega (arith, low)) (omega (arith, high)) among
      (every_back (PartRight plan ts) (parts d (n + 1) h) _ a) (every_back (Right plan) (marks q d (n + 1) h) _ r.1)
  label_found plan ts q k i y bs p s (block l no_declarations cs) d n e deep low high among a r =
      label_found_through plan ts q k i y bs p s cs d n e deep low (omega (arith, high)) among (subst (λ (m : ℕ). PartsRight plan ts (parts_through d m (commands_named bs p s cs))) (no_more n) a) r
  label_found plan ts q k i y bs p s (repeat l c) d n e deep low high among a r =
      label_found plan ts q k i y bs (looping p) s c d (n + 2) e deep (omega (arith, low)) (omega (arith, high)) among a r.1.1
  label_found plan ts q k i y bs p s (repeat_while l b c f) d n e deep low high among a r =
      let body = command_named bs (looping p) s c in
      label_found plan ts q k i y bs (looping p) s c d (n + 3) e deep (omega (arith, low)) (omega (arith, high)) among (every_front (PartRight plan ts) (parts_in d (n + 3) body) _ a)
      (every_front (Right plan) (marks_in q d (n + 3) body) _ r.1.1.1)
  label_found plan ts q k i y bs p s _ d n e deep low high among a r = elim among [ ]

  pub label_found_through : (plan : ℕ → Use) (ts : List Target) (q k i : ℕ) (y : List ℕ) (bs : List Binding) (p : Enclosing) (s : Spot) (cs : Commands) (d n : ℕ) → bound_in bs y ≡ Some (Label k i) → IsDepth d
      → 1 ≤ n → n + labels_through (commands_named bs p s cs) ≤ OCODE_LABEL + 1 → Among y (labels_of_each cs) → PartsRight plan ts (parts_through d n (commands_named bs p s cs))
      → AllRight plan (marks_through q d n (commands_named bs p s cs)) → IsGoal plan q (goal_of ts i)
  label_found_through plan ts q k i y bs p s no_commands d n e deep low high among a r = elim among [ ]
  label_found_through plan ts q k i y bs p s (also c cs) d n e deep low high among a r =
      let first = command_named bs p s c in
      elim (among_first y (labels_of c) (labels_of_each cs) among) [
        | inl one ↦ label_found plan ts q k i y bs p s c d n e deep low (omega (arith, high)) one (every_front (PartRight plan ts) (parts_in d n first) _ a) (every_front (Right plan) (marks_in q d n first) _ r)
        | inr two ↦
            label_found_through plan ts q k i y bs p (after_done c s) cs d (n + labels_in first) e deep (omega (arith, low)) (omega (arith, high)) two (every_back (PartRight plan ts) (parts_in d n first) _ a)
            (every_back (Right plan) (marks_in q d n first) _ r)
      ]

-- a static word is found
word_found : (plan : ℕ → Use) (ts : List Target) (n i : ℕ) (b : Bound) (ms : List Mark) → b ≡ Static i → AllFound ts (target_of_word (n + 1) b) → AllRight plan (name_marks n b ++ ms)
    → n + labels_of_procedure b ≤ OCODE_LABEL + 1 → IsWord plan ((goal_of ts i).label)
word_found plan ts n i b ms e a r high =
    let h : AllFound ts (target_of_word (n + 1) (Static i)) = subst (λ (x : Bound). AllFound ts (target_of_word (n + 1) x)) e a in
    let g : AllRight plan (name_marks n (Static i) ++ ms) = subst (λ (x : Bound). AllRight plan (name_marks n x ++ ms)) e r in
    let top : n + 2 ≤ OCODE_LABEL + 1 = subst (λ (x : Bound). n + labels_of_procedure x ≤ OCODE_LABEL + 1) e high in
    subst (λ (x : Goal). IsWord plan x.label) (sym h.0) (g.0, (omega arith, omega (arith, top)))

pub procedure_found : (plan : ℕ → Use) (ts : List Target) (i : ℕ) (y : List ℕ) (bs : List Binding) (p : Enclosing) (s : Spot) (ds : Definitions) (d n : ℕ) → bound_in bs y ≡ Some (Static i)
    → n + labels_of_definitions (definitions_named bs p s ds) ≤ OCODE_LABEL + 1 → AmongProcedures y ds → PartsRight plan ts (parts_of_definitions d n (definitions_named bs p s ds))
    → IsWord plan ((goal_of ts i).label)
procedure_found plan ts i y bs p s no_definitions d n e high among a = elim among [ ]
procedure_found plan ts i y bs p s (define (variables l xs is) ds) d n e high among a =
    let first = definition_named bs p s (variables l xs is) in
    procedure_found plan ts i y bs (place_after_one_defined bs p (variables l xs is)) (after_one_defined (variables l xs is) s) ds (after_definition d first) (n + labels_of_definition first) e
    (omega (arith, high)) among (every_back (PartRight plan ts) (parts_of_definition d n first) _ a)
procedure_found plan ts i y bs p s (define (routine l x fs c) ds) d n e high (inl same) a =
    word_found plan ts n i (meant (bound_in bs x)) _ (meant_is (bound_in bs x) (Static i) (ap (bound_in bs) same ∙ e)) a.0.0 a.0.1.1 (omega (arith, high))
procedure_found plan ts i y bs p s (define (function l x fs f) ds) d n e high (inl same) a =
    word_found plan ts n i (meant (bound_in bs x)) _ (meant_is (bound_in bs x) (Static i) (ap (bound_in bs) same ∙ e)) a.0.0 a.0.1.1 (omega (arith, high))
procedure_found plan ts i y bs p s (define x ds) d n e high (inr among) a =
    let first = definition_named bs p s x in
    procedure_found plan ts i y bs p (after_one_defined x s) ds d (n + labels_of_definition first) e (omega (arith, high)) among (every_back (PartRight plan ts) (parts_of_definition d n first) _ a)

-- the items of STATIC
pub statics_seen : (plan : ℕ → Use) (ts : List Target) (P : Bound → Type 0) (bs : List Binding) (s : Spot) (is : Items) (n : ℕ) (cs : List Binding) → 1 ≤ n
    → n + length (statics_named bs s is) ≤ OCODE_LABEL + 1 → PartsRight plan ts (parts_of_items n (statics_named bs s is)) → ((i : ℕ) → IsWord plan ((goal_of ts i).label) → P (Static i))
    → Sees P cs → Sees P (statics_in_scope s.number is cs)
statics_seen plan ts P bs s no_items n cs low high a is_word all = all
statics_seen plan ts P bs s (item l x e is) n cs low high a is_word all =
    let own : IsWord plan ((goal_of ts s.number).label) = subst (λ (g : Goal). IsWord plan g.label) (sym a.0.0.0) (a.0.1.0, (low, omega (arith, high))) in
    let later : Spot = numbered 1 (after_constant e (past 1 s)) in
    let same : later.number ≡ s.number + 1 = omega arith in
    subst (λ (m : ℕ). Sees P (statics_in_scope m is (bind x (Static s.number) cs))) same
    (statics_seen plan ts P bs later is (n + 1) (bind x (Static s.number) cs) (omega (arith, low)) (omega (arith, high)) a.1 is_word
    (sees_bind P x (Static s.number) cs (is_word s.number own) all))
