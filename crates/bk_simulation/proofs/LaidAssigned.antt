-- What the static side of commands needs: which exits there are, where labels, CASEs and DEFAULTs are found, and scopes. An assignment is laid where the
-- scheme puts it: its values, and where they are stored, by turns.
pub use Rattle.bk_simulation.proofs.Words.{◌≡◌, ℕ, suc, ◌+◌, ◌<◌, ◌≤◌, ◌^◌, ◌==◌, Bool, true, false, ◌||◌, List, [], ◌∷◌, ◌++◌, length, Option, Some, None, cond, refl, sym, ap, ◌∙◌, subst, arith, append_assoc, append-nil, drop, if◌then◌else◌, eqb-true, eq-eqb, ne_eqb, false≢true, bytes_eq-Decides, bytes_eq, signed, Expressions, Command, Commands, Enclosing, Binding, bound_in, bind, labels_of, labels_of_each, labels_in_scope, GoesTo, Placed, from_label, case_label, Case, Stmt, Label, label_has_one_place, Target, NamedCommand, NamedCommands, meant, worth, target_of_label, goal_in, cases, cases_through, default_in, default_through, first_of, label_or, Named, Sense, label, bind_each, labelled, objects_of_each, objects_of_command, objects_of_commands, Sought, the_label, the_case, the_default, same_place, has_place, one_has_place, alone, AllFound, of_each, of_command, of_commands, in_scope, FRAME_WORDS, at_expression, size, Destination, deeper, SoundEach, SoundDestinations, Spot, labels, labels_at, term_named, terms_named, lvalue_named, lvalues_named, parts, parts_at, parts_onto, parts_from, value_code, store_code, value_codes, store_codes, by_turns, objects, of_expression, Part, parts_in, parts_through, or_parts, RegularEach, declared-next, Sort, Items, Declaration, Declarations, Definitions, scope_after_one, place_after_one, SoundDeclared, SoundOneDeclared, after_one_declared, beginning, joined, AreFaultless, Store, after_definitions, after_declaration, has_variables, labels_of_declaration, definitions_named, declaration_named, declarations_named, named_tree, target_of, parts_of_declaration, parts_of_declarations, definitions_code, declaration_code, scheme, scheme_is_accepted, targets_found, objects_of_declaration, objects_of_declarations, declared, of_declaration, of_declarations, section_sound, IsAccepted, RegularDeclarations, RegularDefinitions, DefineNoVariables, DeclareNoVariables, Bound, depth_after, Placement, item_words, Globals, static_item, static_table, label_place, procedure_code, data_code, word_code, entries_of, section_code, ◌-◌, Environment, Goal, go, ap₂, int_lt, pos, SoundDone, HaveWords, next_depth, Local, Number, Load, Dyadic, Assign, Jump, JumpIf, Stack, command_named, step_named, command_code, test_of_step, cell, foreign, step_of, not, constant_word, SoundDoneEach, Sound, GiveResult, CallRoutine, Switch, Return, Finish, TakeResult, labels_if, labels_onto, labels_in, condition_named, commands_named, parts_if, jump_code, through_code, valued, constant_in, RegularCommand, RegularCommands, Regular, Simple, all_declared-next, zero, scope_after, place_after_all, after_declared, after_declarations, labels_of_declarations, declarations_code, Lasting, all_declared}
pub use Rattle.bk_simulation.proofs.Forms.{words_bound, turns_in, turns_among, same_number, with_names, label_stands, Scene, in_loop, in_switch, owning, Stretch, ByTurns, AreFrom, AreStores, AreActs, IsAct, IsAlone, pushes, IsCode, IsStore, labels_named, Agree, agree_bound, there_in, bases_under, bases_of, IsNumbered, first_of as first_at, home, Bases, bases_so, Lies, written, no_bases, both_bases, lie, data_at, FoundParts, found_front, found_back, HasWords, Around, known, InNames, around_deeper, joined_three, turns_declared, turns_defined, Setting, data_of_parts, passed, within_at, at_depth, in_light, turns_through, of_light, turns_of, jumps, count, IsLabelHere, in_valof, Aim, ending, bound_named, own_cell, label_at, three_bases, call_at, label_found, lies_so, lies_within, lies_after, constant_small, constants_agree, joined_choice, known_agree, names_of, stands_agree, joined_two, role, call_lies, plain_laid, through_light, label_stands_one, LeadsTo, IsScope, data_within, bases_paid, bases_within}
pub use Rattle.bk_simulation.proofs.LaidValues.{ValofsLie, laid_code, laid_store, laid_each, CodeLies}
use Rattle.bk_scope.specs.declared.bound.Bound.TheVariants as b
use Rattle.bk_scope.specs.Places as place
use Rattle.bk_tree.specs.Tree as t
use Rattle.bk_scope.specs.Spots as spot

-- What stands around a command: an expression's, and the exits that there are.
pub record Doing (sc : Scene) (p : Enclosing) (d : ℕ) : Type 0 where
  pub around : Around sc p d
  pub loop : p.in_loop ≡ true → sc.exits.loop ≡ true
  pub switch : p.in_switch ≡ true → sc.exits.switch ≡ true
  pub valof : p.in_valof ≡ true → (to : List Stmt) × (from_label sc.own.stmts sc.around.valof ≡ Some to)

-- a GOTO of this name leads here
abbrev pub Leads : Placed → List Target → List Binding → ℕ → List ℕ → List Stmt → Type 0
Leads own ts bs d x to = (from_label own.stmts (goal_in ts (meant (bound_in bs x))).label ≡ Some to) × ((goal_in ts (meant (bound_in bs x))).depth ≡ d)

-- Where places are found that may be sought: labels, and CASEs and DEFAULT of the SWITCHON around.
pub record Findable (own : Placed) (ts : List Target) (bs : List Binding) (d : ℕ) (stands : Sought → Bool) (cs : List Case) (other : Option ℕ) (at : Sought → List Stmt) : Type 0 where
  pub labels : (x : List ℕ) → stands (the_label x) ≡ true → Leads own ts bs d x (at (the_label x))
  pub chosen : (v : ℕ) (more : List Case) (l : ℕ) → stands (the_case (Some v)) ≡ true → from_label own.stmts (case_label (cs ++ more) l v) ≡ Some (at (the_case (Some v)))
  pub others : (v : ℕ) (more : List Case) (l : ℕ) → stands (the_case (Some v)) ≡ false → case_label (cs ++ more) l v ≡ case_label more l v
  pub default : stands the_default ≡ true → (l : ℕ) × (other ≡ Some l) × (from_label own.stmts l ≡ Some (at the_default))
  pub no_default : stands the_default ≡ false → other ≡ None

abbrev pub Finds : Placed → List Target → List Binding → ℕ → Command → ℕ → NamedCommand → (Sought → List Stmt) → Type 0
Finds own ts bs d a n k at = Findable own ts bs d (λ s. has_place s (known bs) a) (cases n k) (default_in n k) at

abbrev pub FindsEach : Placed → List Target → List Binding → ℕ → Commands → ℕ → NamedCommands → (Sought → List Stmt) → Type 0
FindsEach own ts bs d a n k at = Findable own ts bs d (λ s. one_has_place s (known bs) a) (cases_through n k) (default_through n k) at

pub finds_nothing : (own : Placed) (ts : List Target) (bs : List Binding) (d : ℕ) (at : Sought → List Stmt) → Findable own ts bs d (λ s. false) [] None at
finds_nothing own ts bs d at = grind arith

-- A command that is laid, and its places.
pub record Done (pay : ℕ) (sc : Scene) (i : ℕ) (a : Command) (d n : ℕ) (k : NamedCommand) (c rest : List Stmt) (f : FoundParts sc.own sc.targets (parts_in d n k)) : Type 0 where
  pub at : Sought → List Stmt
  pub lies : Lies (home sc pay) i (objects_of_command a) d c rest (parts_in d n k) f (λ ns. of_command (with_names ns i) a) (InNames sc.bindings i (λ g env. IsAct g sc d env a at c rest))
  pub finds : Finds sc.own sc.targets sc.bindings d a n k at

-- commands in order
pub record DoneEach (pay : ℕ) (sc : Scene) (i : ℕ) (a : Commands) (d n : ℕ) (k : NamedCommands) (c rest : List Stmt) (f : FoundParts sc.own sc.targets (parts_through d n k)) : Type 0 where
  pub at : Sought → List Stmt
  pub lies : Lies (home sc pay) i (objects_of_commands a) d c rest (parts_through d n k) f (λ ns. of_commands (with_names ns i) a) (InNames sc.bindings i (λ g env. AreActs g sc d env a at c rest))
  pub finds : FindsEach sc.own sc.targets sc.bindings d a n k at

-- values and where they are stored, by turns
pub record Turns (pay : ℕ) (sc : Scene) (i j : ℕ) (xs es : Expressions) (d : ℕ) (c rest : List Stmt) (stored given : List Part) (fx : FoundParts sc.own sc.targets stored) (fe : FoundParts sc.own sc.targets given) : Type 0 where
  pub vs : List Stretch
  pub ss : List Stretch
  pub credit : ℕ → ℕ
  pub credit_stored : ℕ → ℕ
  pub on : IsNumbered sc.own d rest
  pub from : Bases (home sc pay) j (objects_of_each es) given fe (λ ns. of_each (with_names ns j) es) credit (InNames sc.bindings j (λ g env. AreFrom g sc d env es vs))
  pub stores : Bases (home sc pay) i (objects_of_each xs) stored fx (λ ns. of_each (with_names ns i) xs) credit_stored (InNames sc.bindings i (λ g env. AreStores g sc (d + 1) env xs ss))
  pub paid : (a : ℕ) → credit_stored a + credit a + data_at sc.own a rest ≤ data_at sc.own a c
  pub turns : ByTurns xs es vs ss c rest

pub doing_loop : (sc : Scene) (p : Enclosing) (d n m e : ℕ) → Doing sc p d → Doing (in_loop n m e sc) (place.looping p) d
doing_loop sc p d n m e a = record { around = record { same = a.around.same; at = a.around.at; words = a.around.words }; loop = λ h. refl; switch = a.switch; valof = a.valof }

pub doing_switch : (sc : Scene) (p : Enclosing) (d n e m : ℕ) → Doing sc p d → Doing (in_switch n e sc) (place.switching m p) d
doing_switch sc p d n e m a = record { around = record { same = a.around.same; at = a.around.at; words = a.around.words }; loop = a.loop; switch = λ h. refl; valof = a.valof }

-- ---- labels

drop_more : (xs ys zs : List Stmt) (i : ℕ) → drop i xs ≡ ys ++ zs → drop (i + length ys) xs ≡ zs
drop_more xs [] zs i e = let h : i + 0 ≡ i = omega arith in ap (λ j. drop j xs) h ∙ e
drop_more xs (y ∷ ys) zs i e =
    let f = first_at xs i y (ys ++ zs) e in
    let h : i + length (y ∷ ys) ≡ suc i + length ys = omega arith in
    ap (λ j. drop j xs) h ∙ drop_more xs ys zs (suc i) f.following

-- the LAB of a label further on
pub label_ahead : (own : Placed) (d l : ℕ) (c front rest : List Stmt) → IsNumbered own d c → c ≡ front ++ (Label l ∷ rest) → from_label own.stmts l ≡ Some (Label l ∷ rest)
label_ahead own d l c front rest st e =
    let h = drop_more own.stmts front (Label l ∷ rest) st.place (st.following ∙ e) in
    let f = first_at own.stmts (st.place + length front) (Label l) rest h in
    label_has_one_place own.stmts (st.place + length front) l st.are f.at ∙ ap Some h

pub leads_label : (own : Placed) (ts : List Target) (bs : List Binding) (j d n : ℕ) (x : List ℕ) (to : List Stmt) → GoesTo j (bound_in bs x) → AllFound ts (target_of_label n d (meant (bound_in bs x)))
    → from_label own.stmts n ≡ Some to → Leads own ts bs d x to
leads_label own ts bs j d n x to g f e = grind (arith, label)

pub either_leads : (own : Placed) (ts : List Target) (bs : List Binding) (d : ℕ) (x : List ℕ) (q r : Bool) (c to : List Stmt) → (q ≡ true → Leads own ts bs d x c) → (r ≡ true → Leads own ts bs d x to)
    → (q || r) ≡ true → Leads own ts bs d x (cond q c to)
either_leads own ts bs d x true r c to f g e = f refl
either_leads own ts bs d x false r c to f g e = g e

pub same_letters : (x y : List ℕ) → bytes_eq x y ≡ true → x ≡ y
same_letters x y e = (bytes_eq-Decides x y).0 e

-- ---- CASEs

same_evaluation : (v w : ℕ) → (w == v) ≡ true → (v == w) ≡ true
same_evaluation v w e = let h : w ≡ v = eqb-true w v e in eq-eqb v w (sym h)

pub first_case : (v w l other : ℕ) (more : List Case) → (w == v) ≡ true → v < 2 ^ 32 → case_label (record { value = signed v; label = l } ∷ more) other w ≡ l
first_case v w l other more e low = ap (λ y. if y == w then l else case_label more other w) (same_number v low) ∙ ap (λ y. if y then l else case_label more other w) (same_evaluation v w e)

pub later_case : (v w l other : ℕ) (more : List Case) → (w == v) ≡ false → v < 2 ^ 32 → case_label (record { value = signed v; label = l } ∷ more) other w ≡ case_label more other w
later_case v w l other more e low = ap (λ y. if y == w then l else case_label more other w) (same_number v low) ∙ ap (λ y. if y then l else case_label more other w) (ne_eqb v w (λ h. absurd (false≢true (sym e ∙ eq-eqb w v (sym h)))))

-- the places of one part and then those of another
pub finds_both : (own : Placed) (ts : List Target) (bs : List Binding) (d : ℕ) (u1 u2 : Sought → Bool) (cs1 cs2 : List Case) (o1 o2 : Option ℕ) (at1 at2 : Sought → List Stmt) → Findable own ts bs d u1 cs1 o1 at1
    → Findable own ts bs d u2 cs2 o2 at2 → Findable own ts bs d (λ s. u1 s || u2 s) (cs1 ++ cs2) (first_of o1 o2) (λ s. cond (u1 s) (at1 s) (at2 s))
finds_both own ts bs d u1 u2 cs1 cs2 o1 o2 at1 at2 a b0 = record {
  labels = λ x e. either_leads own ts bs d x (u1 (the_label x)) (u2 (the_label x)) (at1 (the_label x)) (at2 (the_label x)) (a.labels x) (b0.labels x) e;
  chosen = λ v more l e. chosen_in v more l (u1 (the_case (Some v))) refl e;
  others = λ v more l e. let h = or_parts (u1 (the_case (Some v))) (u2 (the_case (Some v))) e in
      ap (λ y. case_label y l v) (append_assoc cs1 cs2 more) ∙ a.others v (cs2 ++ more) l h.0 ∙ b0.others v more l h.1;
  default = λ e. default_in_one (u1 the_default) refl e;
  no_default = λ e. let h = or_parts (u1 the_default) (u2 the_default) e in ap (λ y. first_of y o2) (a.no_default h.0) ∙ b0.no_default h.1;
}
  where
    chosen_in : (v : ℕ) (more : List Case) (l : ℕ) (q : Bool) → u1 (the_case (Some v)) ≡ q → (q || u2 (the_case (Some v))) ≡ true
        → from_label own.stmts (case_label ((cs1 ++ cs2) ++ more) l v) ≡ Some (cond q (at1 (the_case (Some v))) (at2 (the_case (Some v))))
    chosen_in v more l true h e = ap (λ y. from_label own.stmts (case_label y l v)) (append_assoc cs1 cs2 more) ∙ a.chosen v (cs2 ++ more) l h
    chosen_in v more l false h e = ap (λ y. from_label own.stmts (case_label y l v)) (append_assoc cs1 cs2 more) ∙ ap (from_label own.stmts) (a.others v (cs2 ++ more) l h) ∙ b0.chosen v more l e

    default_in_one : (q : Bool) → u1 the_default ≡ q → (q || u2 the_default) ≡ true → (l : ℕ) × (first_of o1 o2 ≡ Some l) × (from_label own.stmts l ≡ Some (cond q (at1 the_default) (at2 the_default)))
    default_in_one true h e = let x = a.default h in (x.0, ap (λ y. first_of y o2) x.1, x.2)
    default_in_one false h e = let x = b0.default e in (x.0, ap (λ y. first_of y o2) (a.no_default h) ∙ x.1, x.2)

-- a CASE of this word, and what is behind it
case_of_word : (own : Placed) (ts : List Target) (bs : List Binding) (d n v : ℕ) (u : Sought → Bool) (cs : List Case) (o : Option ℕ) (c : List Stmt) (at : Sought → List Stmt) → v < 2 ^ 32
    → from_label own.stmts n ≡ Some c → Findable own ts bs d u cs o at
    → Findable own ts bs d (λ s. same_place s (the_case (Some v)) || u s) (record { value = signed v; label = n } ∷ cs) o (λ s. cond (same_place s (the_case (Some v))) c (at s))
case_of_word own ts bs d n v u cs o c at low found a = record {
  labels = λ x e. a.labels x e;
  chosen = λ w more l e. chosen_in w more l (w == v) refl e;
  others = λ w more l e. let h = or_parts (w == v) (u (the_case (Some w))) e in later_case v w n l (cs ++ more) h.0 low ∙ a.others w more l h.1;
  default = λ e. a.default e;
  no_default = λ e. a.no_default e;
}
  where
    chosen_in : (w : ℕ) (more : List Case) (l : ℕ) (q : Bool) → (w == v) ≡ q → (q || u (the_case (Some w))) ≡ true
        → from_label own.stmts (case_label (record { value = signed v; label = n } ∷ (cs ++ more)) l w) ≡ Some (cond q c (at (the_case (Some w))))
    chosen_in w more l true h e = ap (from_label own.stmts) (first_case v w n l (cs ++ more) h low) ∙ found
    chosen_in w more l false h e = ap (from_label own.stmts) (later_case v w n l (cs ++ more) h low) ∙ a.chosen w more l e

pub finds_case : (own : Placed) (ts : List Target) (bs : List Binding) (d n v : ℕ) (y z : Option ℕ) (u : Sought → Bool) (cs : List Case) (o : Option ℕ) (c : List Stmt) (at : Sought → List Stmt) → y ≡ z → z ≡ Some v
    → v < 2 ^ 32 → from_label own.stmts n ≡ Some c → Findable own ts bs d u cs o at
    → Findable own ts bs d (λ s. same_place s (the_case y) || u s) (record { value = signed (worth z); label = n } ∷ cs) o (λ s. cond (same_place s (the_case z)) c (at s))
finds_case own ts bs d n v y z u cs o c at e h low found a = grind (arith, same_place, label, case_of_word)

-- a SWITCHON goes to the CASE of the word, else to its DEFAULT, else behind itself
pub switch_chosen : (own : Placed) (ts : List Target) (bs : List Binding) (d l : ℕ) (u : Sought → Bool) (cs : List Case) (o : Option ℕ) (at : Sought → List Stmt) (v : ℕ) → Findable own ts bs d u cs o at
    → u (the_case (Some v)) ≡ true → from_label own.stmts (case_label cs l v) ≡ Some (at (the_case (Some v)))
switch_chosen own ts bs d l u cs o at v a e = ap (λ y. from_label own.stmts (case_label y l v)) (sym (append-nil cs)) ∙ a.chosen v [] l e

not_chosen : (own : Placed) (ts : List Target) (bs : List Binding) (d l : ℕ) (u : Sought → Bool) (cs : List Case) (o : Option ℕ) (at : Sought → List Stmt) (v : ℕ) → Findable own ts bs d u cs o at
    → u (the_case (Some v)) ≡ false → case_label cs l v ≡ l
not_chosen own ts bs d l u cs o at v a e = ap (λ y. case_label y l v) (sym (append-nil cs)) ∙ a.others v [] l e

pub switch_default : (own : Placed) (ts : List Target) (bs : List Binding) (d n : ℕ) (u : Sought → Bool) (cs : List Case) (o : Option ℕ) (at : Sought → List Stmt) (v : ℕ) → Findable own ts bs d u cs o at
    → u (the_case (Some v)) ≡ false → u the_default ≡ true → from_label own.stmts (case_label cs (label_or n o) v) ≡ Some (at the_default)
switch_default own ts bs d n u cs o at v a e h =
    let x = a.default h in
    ap (from_label own.stmts) (not_chosen own ts bs d (label_or n o) u cs o at v a e ∙ ap (label_or n) x.1) ∙ x.2

pub switch_none : (own : Placed) (ts : List Target) (bs : List Binding) (d n : ℕ) (u : Sought → Bool) (cs : List Case) (o : Option ℕ) (at : Sought → List Stmt) (v : ℕ) → Findable own ts bs d u cs o at
    → u (the_case (Some v)) ≡ false → u the_default ≡ false → case_label cs (label_or n o) v ≡ n
switch_none own ts bs d n u cs o at v a e h = not_chosen own ts bs d (label_or n o) u cs o at v a e ∙ ap (label_or n) (a.no_default h)

-- ---- scopes

pub words_labels : (k n : ℕ) (xs : List (List ℕ)) (bs : List Binding) → HasWords bs → HasWords (labels_in_scope k n xs bs)
words_labels k n [] bs h = h
words_labels k n (x ∷ xs) bs h = words_labels k (n + 1) xs (bind x (b.Label k n) bs) (words_bound x (b.Label k n) bs (λ v e. absurd (cc)) h)

pub words_variable : (j d : ℕ) (x : List ℕ) (bs : List Binding) → HasWords bs → HasWords (bind x (b.Variable j d) bs)
words_variable j d x bs h = words_bound x (b.Variable j d) bs (λ v e. absurd (cc)) h

-- labels hide constants in the same way here and there
pub agree_labels : (k n : ℕ) (xs : List (List ℕ)) (ns : List Named) (bs : List Binding) (i : ℕ) → Agree ns bs
    → Agree (bind_each xs label (with_names ns i)).names (labels_in_scope k n xs bs) × ((bind_each xs label (with_names ns i)).next ≡ i)
agree_labels k n [] ns bs i a = (a, refl)
agree_labels k n (x ∷ xs) ns bs i a = agree_labels k (n + 1) xs (record { name = x; sense = label } ∷ ns) (bind x (b.Label k n) bs) i (agree_bound x label (b.Label k n) ns bs refl refl a)

cond_same : {A : Type 0} (q : Bool) (x : A) → x ≡ cond q x x
cond_same true x = refl
cond_same false x = refl

or_none : (q : Bool) → (q || false) ≡ true → q ≡ true
or_none true e = refl
or_none false e = e

-- names bound to one sense
pub names_bound : (xs : List (List ℕ)) (m : Sense) (ns : List Named) (i : ℕ) → bind_each xs m (with_names ns i) ≡ with_names (bind_each xs m (with_names ns 0)).names i
names_bound [] m ns i = refl
names_bound (x ∷ xs) m ns i = names_bound xs m (record { name = x; sense = m } ∷ ns) i

-- one command as a scope of its own
pub alone_lies : (pay : ℕ) (sc : Scene) (i : ℕ) (a : Command) (d n : ℕ) (k : NamedCommand) (c rest : List Stmt) (j q : ℕ) {f : FoundParts sc.own sc.targets (parts_in d n k)} → q ≡ sc.procedure → turns_in false a ≤ pay
    → Done pay (record sc { bindings = labels_in_scope q j (labels_of a) sc.bindings }) i a d n k c rest f
    → Lies (home sc pay) i (objects_of_command a) d c rest (parts_in d n k) f (λ ns. of_command (in_scope a (with_names ns i)) a) (InNames sc.bindings i (λ g env. IsAlone g sc d env a j c rest))
alone_lies pay sc i a d n k c rest j q {f} same size done =
    let done1 = subst (λ x. Done pay (record sc { bindings = labels_in_scope x j (labels_of a) sc.bindings }) i a d n k c rest f) same done in
    let done2 = subst (λ x. Done pay (record sc { bindings = labels_in_scope sc.procedure j x sc.bindings }) i a d n k c rest f) (sym (append-nil (labels_of a))) done1 in
    let xs = labels_of_each (alone a) in
    let within = owning j (alone a) sc in
    let h = home sc pay in
    let inside = bases_under h within.bindings (λ ns. (bind_each xs label (with_names ns 0)).names)
    (λ g some z ns u v. ((agree_labels sc.procedure j xs ns sc.bindings 0 u).0, (λ k bases frame grown. record { each = (labels_named xs (there_in h sc.procedure) (with_names ns 0) bases frame j (v sc.procedure bases frame grown)).each }))) done2.lies.objects_are in
    let said = bases_of h _ (λ ns. of_command (in_scope a (with_names ns i)) a) (λ ns. ap (λ e. of_command e a) (sym (names_bound xs label ns i))) inside in
    lie done2.lies.on
    (bases_so h _ (λ g fit v ns u.
    let env = with_names ns i in
    let inner = labelled (alone a) env in
    let agrees = agree_labels sc.procedure j xs ns sc.bindings i u in
    let pays = fit.pays in (
      done2.at,
      (rest, done2.at, done2.at, subst (λ y. IsAct g within d (with_names inner.names y) a done2.at c rest) (sym agrees.1) (v inner.names agrees.0), refl, (λ s. cond_same (has_place s inner a) (done2.at s))),
      omega (arith, pays, size),
      (λ x e. done2.finds.labels x (label_stands x (known within.bindings) env a ∙ or_none (has_place (the_label x) env a) e)),
    )) said)
    (λ v. done2.lies.paid v)

-- the values of an assignment, each where it may stand; and where they are stored
abbrev LaidFroms : (pay : ℕ) (sc : Scene) (v : Enclosing) (u : Spot) (j : ℕ) (es : Expressions) (d k : ℕ) → FoundParts sc.own sc.targets (parts_from d k (terms_named 0 sc.bindings v u es)) → Type 0
LaidFroms pay sc v u j t.none d k f = Unit {0}
LaidFroms pay sc v u j (t.more e es) d k f =
    ((c c1 : List Stmt) → c ≡ value_code sc.targets d k (term_named sc.bindings v u e) ++ c1 → IsNumbered sc.own d c → Lies (home sc pay) j (objects e) (d + 1) c c1 (parts d k (term_named sc.bindings v u e)) (found_front sc.own sc.targets (parts d k (term_named sc.bindings v u e)) _ f) (λ ns. of_expression (with_names ns j) e)
    (InNames sc.bindings j (λ g env. IsCode g sc d env pushes e c c1)))
    × LaidFroms pay sc (deeper 0 v) (spot.following e u) (j + objects e) es d (k + labels (term_named sc.bindings v u e)) (found_back sc.own sc.targets (parts d k (term_named sc.bindings v u e)) _ f)

abbrev LaidStores : (pay : ℕ) (sc : Scene) (p : Enclosing) (s : Spot) (i : ℕ) (xs : Expressions) (d n : ℕ) → FoundParts sc.own sc.targets (parts_onto (d + 1) n (lvalues_named sc.bindings (deeper 1 p) s xs)) → Type 0
LaidStores pay sc p s i t.none d n f = Unit {0}
LaidStores pay sc p s i (t.more x xs) d n f =
    ((c c1 : List Stmt) → d + 1 ≤ FRAME_WORDS → c ≡ store_code sc.targets (d + 1) n (lvalue_named sc.bindings (deeper 1 p) s x) ++ c1 → IsNumbered sc.own (d + 1) c
    → Lies (home sc pay) i (objects x) d c c1 (parts_at (d + 1) n (lvalue_named sc.bindings (deeper 1 p) s x)) (found_front sc.own sc.targets (parts_at (d + 1) n (lvalue_named sc.bindings (deeper 1 p) s x)) _ f) (λ ns. of_expression (with_names ns i) x)
    (InNames sc.bindings i (λ g env. IsStore g sc (d + 1) env x c c1)))
    × LaidStores pay sc p (spot.following x s) (i + objects x) xs d (n + labels_at (lvalue_named sc.bindings (deeper 1 p) s x)) (found_back sc.own sc.targets (parts_at (d + 1) n (lvalue_named sc.bindings (deeper 1 p) s x)) _ f)

-- an assignment: values and where they are stored, by turns
pub turns_lie : (pay : ℕ) (sc : Scene) (p v : Enclosing) (s u : Spot) (i j : ℕ) (xs es : Expressions) (d n k : ℕ) (c rest : List Stmt)
    (fx : FoundParts sc.own sc.targets (parts_onto (d + 1) n (lvalues_named sc.bindings (deeper 1 p) s xs))) (fe : FoundParts sc.own sc.targets (parts_from d k (terms_named 0 sc.bindings v u es)))
    → size xs ≡ size es → LaidStores pay sc p s i xs d n fx → LaidFroms pay sc v u j es d k fe
    → c ≡ by_turns (value_codes sc.targets d k (terms_named 0 sc.bindings v u es)) (store_codes sc.targets (d + 1) n (lvalues_named sc.bindings (deeper 1 p) s xs)) ++ rest → IsNumbered sc.own d c
    → Turns pay sc i j xs es d c rest (parts_onto (d + 1) n (lvalues_named sc.bindings (deeper 1 p) s xs)) (parts_from d k (terms_named 0 sc.bindings v u es)) fx fe
turns_lie pay sc p v s u i j t.none t.none d n k c rest fx fe same hx he e st =
    record { vs = []; ss = []; credit = λ a. 0; credit_stored = λ a. 0; paid = λ a. let w = ap (data_at sc.own a) e in omega (arith, w); on = written sc.own d c rest e st; from = no_bases (home sc pay) j _ (λ g y ns z. tt); stores = no_bases (home sc pay) i _ (λ g y ns z. tt); turns = e }
turns_lie pay sc p v s u i j t.none (t.more e0 es) d n k c rest fx fe same hx he e st = absurd (omega (arith, same))
turns_lie pay sc p v s u i j (t.more x xs) t.none d n k c rest fx fe same hx he e st = absurd (omega (arith, same))
turns_lie pay sc p v s u i j (t.more x xs) (t.more e0 es) d n k c rest fx fe same hx he e st =
    let lx = lvalue_named sc.bindings (deeper 1 p) s x in
    let te = term_named sc.bindings v u e0 in
    let ve = value_code sc.targets d k te in
    let vx = store_code sc.targets (d + 1) n lx in
    let others = by_turns (value_codes sc.targets d (k + labels te) (terms_named 0 sc.bindings (deeper 0 v) (spot.following e0 u) es))
    (store_codes sc.targets (d + 1) (n + labels_at lx) (lvalues_named sc.bindings (deeper 1 p) (spot.following x s) xs)) in
    let c2 = others ++ rest in
    let c1 = vx ++ c2 in
    let one = he.0 c c1 (joined_three ve vx others rest c e) st in
    let to = hx.0 c1 c2 one.on.shallow refl one.on in
    let more = turns_lie pay sc p (deeper 0 v) (spot.following x s) (spot.following e0 u) (i + objects x) (j + objects e0) xs es d (n + labels_at lx) (k + labels te) c2 rest (found_back sc.own sc.targets (parts_at (d + 1) n lx) _ fx) (found_back sc.own sc.targets (parts d k te) _ fe) (omega (arith, same)) hx.1 he.1 refl to.on in
    record {
      vs = record { from = c; to = c1 } ∷ more.vs;
      ss = record { from = c1; to = c2 } ∷ more.ss;
      credit = λ a. one.credit a + more.credit a;
      credit_stored = λ a. to.credit a + more.credit_stored a;
      paid = λ a.
          let o = one.paid a in let w = to.paid a in let r = more.paid a in omega (arith, o, w, r);
      on = more.on;
      from = bases_so (home sc pay) _ (λ g y z ns w0. (z.0 ns w0, z.1 ns w0)) (both_bases (home sc pay) j (objects e0) (objects_of_each es) (parts d k te) fe _ _ one.objects_are more.from);
      stores = bases_so (home sc pay) _ (λ g y z ns w0. (z.0 ns w0, z.1 ns w0)) (both_bases (home sc pay) i (objects x) (objects_of_each xs) (parts_at (d + 1) n lx) fx _ _ to.objects_are more.stores);
      turns = (refl, refl, more.turns);
    }

-- the values of an assignment, and where they are stored, each where it may stand
pub laid_froms : (pay : ℕ) (valofs : ValofsLie pay) (sc : Scene) (v : Enclosing) (u : Spot) (j : ℕ) (es : Expressions) (d k : ℕ) → d ≤ FRAME_WORDS → Around sc v d → SoundEach 0 sc.bindings v u es → RegularEach es → turns_among true es ≤ pay
    → (f : FoundParts sc.own sc.targets (parts_from d k (terms_named 0 sc.bindings v u es))) → LaidFroms pay sc v u j es d k f
laid_froms pay valofs sc v u j t.none d k low a h r m f = tt
laid_froms pay valofs sc v u j (t.more e es) d k low a h r m f =
    let te = term_named sc.bindings v u e in (
      (λ c c1 e0 st. laid_code pay valofs sc v u j pushes e d k c c1 a h.0 r.0 (omega arith) (found_front sc.own sc.targets (parts d k te) _ f) e0 st),
      laid_froms pay valofs sc (deeper 0 v) (spot.following e u) (j + objects e) es d (k + labels te) low (around_deeper sc v d 0 d (omega arith) low a) h.1 r.1 (omega arith) (found_back sc.own sc.targets (parts d k te) _ f),
    )

pub laid_stores : (pay : ℕ) (valofs : ValofsLie pay) (sc : Scene) (p : Enclosing) (s : Spot) (i : ℕ) (xs : Expressions) (d n : ℕ) → Around sc p d → SoundDestinations sc.bindings (deeper 1 p) s xs → RegularEach xs → turns_among true xs ≤ pay
    → (f : FoundParts sc.own sc.targets (parts_onto (d + 1) n (lvalues_named sc.bindings (deeper 1 p) s xs))) → LaidStores pay sc p s i xs d n f
laid_stores pay valofs sc p s i t.none d n a h r m f = tt
laid_stores pay valofs sc p s i (t.more x xs) d n a h r m f =
    let lx = lvalue_named sc.bindings (deeper 1 p) s x in (
      (λ c c1 low e0 st. laid_store pay valofs sc (deeper 1 p) s i (Destination false (at_expression x)) x d n c c1 (around_deeper sc p d 1 (d + 1) refl low a) h.0 h.1 r.0 (omega arith) (found_front sc.own sc.targets (parts_at (d + 1) n lx) _ f) e0 st),
      laid_stores pay valofs sc p (spot.following x s) (i + objects x) xs d (n + labels_at lx) a h.2 r.1 (omega arith) (found_back sc.own sc.targets (parts_at (d + 1) n lx) _ f),
    )
