-- The body of a procedure of a section without faults is good: what each node asks for is there.
use Rattle.bk_scope.specs.Cases as chosen
use Rattle.bk_trans.specs.Program as t
use Rattle.bk_trans.proofs.Scopes.{Sees, sees_bind, sees_all, sees_labels, sees_procedures, AllMean, PartsRight, label_found, label_found_through, procedure_found, statics_seen, PartRight}
use Rattle.bk_trans.proofs.Forms.{grown_starts, grown_defined, Exits, IsGoal, IsWord, Pushed, Held, Goes, case_words, case_words_through, AllWords, Good, GoodEach, GoodIf, GoodAt, GoodOnto, GoodAllOnto, GoodFrom, GoodIn, GoodThrough, GoodDeclared, GoodOneDeclared, GoodDefined, GoodOneDefined, GoodStarted, Mark, connective_mark, marks, marks_each, marks_if, marks_at, marks_onto, marks_all_onto, marks_from, marks_by_turns, marks_in, marks_through, marks_of_declaration, marks_of_declarations, marks_of_definition, marks_of_definitions, marks_of_starts, AllRight, Right, no_more}
use Rattle.bk_trans.proofs.Reported.{AllFine, Fine, told_front, told_back, told_room, IsFine}
use Rattle.bk_trans.proofs.Asked.{Asked, for_value, for_truth, role, asked, turn, negated, arith, ◌≡◌, ℕ, ◌+◌, ◌<◌, ◌≤◌, ◌^◌, true, false, not, Option, Some, None, List, [], ◌∷◌, ◌++◌, length, refl, sym, ap, subst, ◌∙◌, ⊤, false≢true, le-ltb, FRAME_WORDS, GLOBAL_NUMBER, VEC_NUMBER, OCODE_LABEL, Mention, Expression, Expressions, Command, Commands, Declaration, Declarations, Items, Definition, Definitions, Starts, name, parens, unary, binary, choice, apply, valof, none, more, assign, call, goto, label, case_of, default, when, test, while, for_loop, switch, result, simple, block, repeat, repeat_while, no_commands, also, constants, definitions, no_declarations, declare, no_items, item, variables, no_definitions, define, no_starts, value, vector, at_expression, size, Bound, Constant, Global, Static, Variable, Label, Enclosing, Role, Value, Truth, Address, Destination, not_assignable, no_result_or_return, vec_out_of_range, Binding, bound_in, bind, has_address, constant_word, AllDiffer, deeper, looping, switching, labelled, valued, labels_of, labels_of_each, parenthesised, within, words_of_vector, words_of_start, place_after, variables_of, Spot, procedures_in, onward, past, numbered, following, after_each, after_done, after_declared, after_one_declared, after_one_defined, after_constant, symbols_each, Point, at, labels_in_scope, procedures_in_scope, place_after_one_defined, place_after_defined, variables_in_scope, manifests_in_scope, globals_in_scope, scope_after_one, place_after_one, scope_after, place_after_all, unless, its_meaning, its_word, constant, each_constant, at_most, addressed, assigned, prefixed, pushed, chosen_at, defaulted_at, one_of, each_of, reported, reported_each, reported_destinations, reported_done, reported_done_each, reported_declared, reported_one_declared, reported_defined, reported_one_defined, reported_started, Usable, GoesTo, HasWord, HasWordUpTo, Sound, SoundEach, SoundDestinations, SoundDone, SoundDoneEach, SoundDeclared, SoundOneDeclared, SoundDefined, SoundOneDefined, SoundStarted, Use, every_front, every_back, every_both, Operator as o, Prefix as sign, Simple as w, Sort as sort, cases_differ, Target, meant, worth, term_named, terms_named, condition_named, lvalue_named, lvalues_named, command_named, commands_named, declarations_named, declaration_named, definitions_named, definition_named, starts_named, labels, labels_each, labels_if, labels_at, labels_onto, labels_in, labels_through, labels_of_declaration, labels_of_declarations, labels_of_definition, labels_of_definitions, labels_of_starts, count, after_starts, after_definition, after_definitions, after_declaration, after_declarations, Part, parts, parts_each, parts_if, parts_at, parts_onto, parts_from, parts_in, parts_through, parts_of_declarations, parts_of_declaration, parts_of_definitions, parts_of_definition, parts_of_starts, goal_of}

-- what a name in scope means in procedure k, with entry q and depth d
abbrev pub Known : (ℕ → Use) → List Target → ℕ → ℕ → ℕ → Bound → Type 0
Known plan ts q k d (Static m) = IsWord plan ((goal_of ts m).label)
Known plan ts q k d (Variable j i) = j ≡ k → (2 ≤ i) × (i + 1 ≤ d)
Known plan ts q k d (Label j m) = j ≡ k → IsGoal plan q (goal_of ts m)
Known plan ts q k d _ = ⊤

known_more : (plan : ℕ → Use) (ts : List Target) (q k d e : ℕ) (z : Bound) → d ≤ e → Known plan ts q k d z → Known plan ts q k e z
known_more plan ts q k d e (Constant v) low h = tt
known_more plan ts q k d e (Global g) low h = tt
known_more plan ts q k d e (Variable j i) low h = λ same. let g = h same in (g.0, omega (arith, low, g))
known_more plan ts q k d e _ low h = h

-- what stands around a node: names in scope, and the frame
pub record At (plan : ℕ → Use) (ts : List Target) (q : ℕ) (bs : List Binding) (p : Enclosing) (d : ℕ) : Type 0 where
  pub sees : Sees (Known plan ts q p.procedure d) bs
  pub at : p.depth ≡ d
  pub low : 2 ≤ d

at_deeper : (plan : ℕ → Use) (ts : List Target) (q : ℕ) (bs : List Binding) (p : Enclosing) (d i e : ℕ) → At plan ts q bs p d → d + i ≡ e → e ≤ FRAME_WORDS + 1 → At plan ts q bs (deeper i p) e
at_deeper plan ts q bs p d i e a same high = record {
  sees = λ y z f. known_more plan ts q p.procedure d e z (omega (arith, same)) (a.sees y z f);
  at = let b = a.at in omega (arith, b, same, high);
  low = let b = a.low in omega (arith, b, same);
}

-- names
name_pushed : (plan : ℕ → Use) (ts : List Target) (q k d e : ℕ) (y : Option Bound) → Usable k e y → ((z : Bound) → y ≡ Some z → Known plan ts q k d z) → Pushed plan ts d (meant y)
name_pushed plan ts q k d e (Some (Constant v)) u f = tt
name_pushed plan ts q k d e (Some (Global g)) u f = subst (λ (x : Option ℕ). Pushed plan ts d (Global x)) (sym u.1) u.2
name_pushed plan ts q k d e (Some (Static m)) u f = f (Static m) refl
name_pushed plan ts q k d e (Some (Variable j i)) u f = f (Variable j i) refl u.0
name_pushed plan ts q k d e _ u f = elim u [ ]

name_held : (plan : ℕ → Use) (ts : List Target) (q k d e : ℕ) (y : Option Bound) → Usable k e y → has_address y ≡ true → ((z : Bound) → y ≡ Some z → Known plan ts q k d z) → Held plan ts d (meant y)
name_held plan ts q k d e (Some (Constant v)) u h f = absurd (false≢true h)
name_held plan ts q k d e (Some (Global g)) u h f = subst (λ (x : Option ℕ). Held plan ts d (Global x)) (sym u.1) u.2
name_held plan ts q k d e (Some (Static m)) u h f = f (Static m) refl
name_held plan ts q k d e (Some (Variable j i)) u h f = f (Variable j i) refl u.0
name_held plan ts q k d e _ u h f = elim u [ ]

name_gone : (plan : ℕ → Use) (ts : List Target) (q k d : ℕ) (y : Option Bound) → GoesTo k y → ((z : Bound) → y ≡ Some z → Known plan ts q k d z) → Goes plan ts q (meant y)
name_gone plan ts q k d y g f = subst (λ (x : Option Bound). Goes plan ts q (meant x)) (sym g.1) (f (Label k g.0) g.1 refl)

count_named : (n : ℕ) (bs : List Binding) (p : Enclosing) (s : Spot) (es : Expressions) → count (terms_named n bs p s es) ≡ size es
count_named n bs p s none = refl
count_named n bs p s (more e es) = ap (λ k. k + 1) (count_named n bs (deeper n p) (following e s) es)

-- which exits a place has
abbrev pub exits : Enclosing → Exits
exits p = record { loop = p.in_loop; switch = p.in_switch; valof = p.in_valof }

-- a part of a procedure as it stands: m labels from n on, what is told of it, its own parts, and its marks
pub record Placed (plan : ℕ → Use) (ts : List Target) (n m : ℕ) (xs : List Point) (ps : List Part) (ks : List Mark) : Type 0 where
  pub low : 1 ≤ n
  pub high : n + m ≤ OCODE_LABEL + 1
  pub reported : Fine xs
  pub parts : PartsRight plan ts ps
  pub marks : AllRight plan ks

within_it : {plan : ℕ → Use} {ts : List Target} {n m i j : ℕ} {xs ys : List Point} {ps qs : List Part} {ks ls : List Mark} → Placed plan ts n m xs ps ks → n ≤ i → i + j ≤ n + m → Fine ys → PartsRight plan ts qs
    → AllRight plan ls → Placed plan ts i j ys qs ls
within_it g from less f b r = let l = g.low in let h = g.high in record { low = omega (arith, l, from); high = omega (arith, h, less); reported = f; parts = b; marks = r }

front : {plan : ℕ → Use} {ts : List Target} {n m i j : ℕ} {xs : List Point} {ps : List Part} {ks : List Mark} (ys : List Point) (qs : List Part) (ls : List Mark) → Placed plan ts n m (xs ++ ys) (ps ++ qs) (ks ++ ls)
    → n ≤ i → i + j ≤ n + m → Placed plan ts i j xs ps ks
front {plan} {ts} {xs = xs} {ps = ps} {ks = ks} ys qs ls g from less = within_it g from less (told_front xs ys g.reported) (every_front (PartRight plan ts) ps qs g.parts) (every_front (Right plan) ks ls g.marks)

back : {plan : ℕ → Use} {ts : List Target} {n m i j : ℕ} {ys : List Point} {qs : List Part} {ls : List Mark} (xs : List Point) (ps : List Part) (ks : List Mark) → Placed plan ts n m (xs ++ ys) (ps ++ qs) (ks ++ ls)
    → n ≤ i → i + j ≤ n + m → Placed plan ts i j ys qs ls
back {plan} {ts} {ys = ys} {qs = qs} {ls = ls} xs ps ks g from less = within_it g from less (told_back xs ys g.reported) (every_back (PartRight plan ts) ps qs g.parts) (every_back (Right plan) ks ls g.marks)

behind_told : {plan : ℕ → Use} {ts : List Target} {n m i j : ℕ} {ys : List Point} {ps : List Part} {ks : List Mark} (xs : List Point) → Placed plan ts n m (xs ++ ys) ps ks → n ≤ i → i + j ≤ n + m → Placed plan ts i j ys ps ks
behind_told {ys = ys} xs g from less = within_it g from less (told_back xs ys g.reported) g.parts g.marks

behind_marks : {plan : ℕ → Use} {ts : List Target} {n m : ℕ} {xs : List Point} {ps : List Part} {ls : List Mark} (ks : List Mark) → Placed plan ts n m xs ps (ks ++ ls) → Placed plan ts n m xs ps ls
behind_marks {plan} {ls = ls} ks g = within_it g (omega arith) (omega arith) g.reported g.parts (every_back (Right plan) ks ls g.marks)

marked : {plan : ℕ → Use} {ts : List Target} {n m : ℕ} {xs : List Point} {ps : List Part} {k : Mark} {ks : List Mark} → Placed plan ts n m xs ps (k ∷ ks) → Placed plan ts n m xs ps ks
marked g = within_it g (omega arith) (omega arith) g.reported g.parts g.marks.1

-- labels come into scope
pub enter_labels : (plan : ℕ → Use) (ts : List Target) (q k : ℕ) (bs : List Binding) (p r : Enclosing) (s : Spot) (c : Command) (d n m : ℕ) {xs : List Point} → At plan ts q bs p d → d ≤ FRAME_WORDS
    → Placed plan ts n (labels_in (command_named (labels_in_scope k m (labels_of c) bs) r s c)) xs (parts_in d n (command_named (labels_in_scope k m (labels_of c) bs) r s c))
    (marks_in q d n (command_named (labels_in_scope k m (labels_of c) bs) r s c)) → At plan ts q (labels_in_scope k m (labels_of c) bs) p d
enter_labels plan ts q k bs p r s c d n m a top g = record {
  sees = sees_labels (Known plan ts q p.procedure d) k m (labels_of c) bs a.sees (λ y i among e same.
      label_found plan ts q k i y (labels_in_scope k m (labels_of c) bs) r s c d n e (a.low, top) g.low g.high among g.parts g.marks);
  at = a.at;
  low = a.low;
}

enter_labels_each : (plan : ℕ → Use) (ts : List Target) (q k : ℕ) (bs : List Binding) (p r : Enclosing) (s : Spot) (cs : Commands) (d n m : ℕ) {xs : List Point} → At plan ts q bs p d → d ≤ FRAME_WORDS
    → Placed plan ts n (labels_through (commands_named (labels_in_scope k m (labels_of_each cs) bs) r s cs)) xs (parts_through d n (commands_named (labels_in_scope k m (labels_of_each cs) bs) r s cs))
    (marks_through q d n (commands_named (labels_in_scope k m (labels_of_each cs) bs) r s cs)) → At plan ts q (labels_in_scope k m (labels_of_each cs) bs) p d
enter_labels_each plan ts q k bs p r s cs d n m a top g = record {
  sees = sees_labels (Known plan ts q p.procedure d) k m (labels_of_each cs) bs a.sees (λ y i among e same.
      label_found_through plan ts q k i y (labels_in_scope k m (labels_of_each cs) bs) r s cs d n e (a.low, top) g.low g.high among g.parts g.marks);
  at = a.at;
  low = a.low;
}

-- CASEs
word_of_case : (y : Option ℕ) → HasWord y → AllFine (its_word y) → worth y < 2 ^ 32
word_of_case None u h = absurd (let n : None ≡ Some u.0 = u.1 in cc)
word_of_case (Some v) u h = h.0

one_word : (y : Option ℕ) → HasWord y → chosen.word_if_any y ≡ worth y ∷ []
one_word None u = absurd (let n : None ≡ Some u.0 = u.1 in cc)
one_word (Some v) u = refl

mutual
  same_words : (bs : List Binding) (p : Enclosing) (s : Spot) (c : Command) → SoundDone bs p s c → chosen.case_words bs c ≡ case_words (command_named bs p s c)
  same_words bs p s (label l x c) h = same_words bs p (past 1 s) c h.1
  same_words bs p s (case_of l e c) h =
      ap (λ vs. vs ++ chosen.case_words bs c) (one_word (constant_word bs e) h.1) ∙ ap (λ vs. worth (constant_word bs e) ∷ vs) (same_words bs p (after_constant e (past 1 s)) c h.2)
  same_words bs p s (default l c) h = same_words bs p (past 1 s) c h.1
  same_words bs p s (when l b e c) h = same_words bs p (following e s) c h.1
  same_words bs p s (test l e a b) h =
      ap (λ vs. vs ++ chosen.case_words bs b) (same_words bs p (following e s) a h.1) ∙ ap (λ vs. case_words (command_named bs p (following e s) a) ++ vs) (same_words bs p (after_done a (following e s)) b h.2)
  same_words bs p s (while l b e c) h = same_words bs (looping p) (following e s) c h.1
  same_words bs p s (block l no_declarations cs) h = same_words_each bs p s cs h
  same_words bs p s (repeat l c) h = same_words bs (looping p) s c h
  same_words bs p s (repeat_while l b c e) h = same_words bs (looping p) s c h.0
  same_words bs p s _ h = refl

  same_words_each : (bs : List Binding) (p : Enclosing) (s : Spot) (cs : Commands) → SoundDoneEach bs p s cs → chosen.case_words_each bs cs ≡ case_words_through (commands_named bs p s cs)
  same_words_each bs p s no_commands h = refl
  same_words_each bs p s (also c cs) h =
      ap (λ vs. vs ++ chosen.case_words_each bs cs) (same_words bs p s c h.0) ∙ ap (λ vs. case_words (command_named bs p s c) ++ vs) (same_words_each bs p (after_done c s) cs h.1)

mutual
  are_words : (bs : List Binding) (p : Enclosing) (s : Spot) (c : Command) → SoundDone bs p s c → AllFine (reported_done bs p s c) → AllWords (case_words (command_named bs p s c))
  are_words bs p s (label l x c) h f = are_words bs p (past 1 s) c h.1 (every_back IsFine (one_of p.labels s.place l x ++ its_meaning (bound_in bs x)) _ f)
  are_words bs p s (case_of l e c) h f =
      let xs : List Point = chosen_at p.switch s.place l (constant_word bs e) in
      let ys : List Point = constant bs p.procedure (past 1 s) e in
      (word_of_case (constant_word bs e) h.1 (every_back IsFine _ (its_word (constant_word bs e)) (every_back IsFine xs ys (every_front IsFine (xs ++ ys) _ f))), are_words bs p (after_constant e (past 1 s)) c h.2 (every_back IsFine (xs ++ ys) _ f))
  are_words bs p s (default l c) h f = are_words bs p (past 1 s) c h.1 (every_back IsFine (defaulted_at p.switch s.place l) _ f)
  are_words bs p s (when l b e c) h f = are_words bs p (following e s) c h.1 (every_back IsFine (reported Truth bs p s e) _ f)
  are_words bs p s (test l e a b) h f =
      let xs : List Point = reported Truth bs p s e in
      let ys : List Point = reported_done bs p (following e s) a in
      every_both (λ (v : ℕ). v < 2 ^ 32) (case_words (command_named bs p (following e s) a)) _ (are_words bs p (following e s) a h.1 (every_back IsFine xs ys (every_front IsFine (xs ++ ys) _ f)))
      (are_words bs p (after_done a (following e s)) b h.2 (every_back IsFine (xs ++ ys) _ f))
  are_words bs p s (while l b e c) h f = are_words bs (looping p) (following e s) c h.1 (every_back IsFine (reported Truth bs p s e) _ f)
  are_words bs p s (block l no_declarations cs) h f = are_words_each bs p s cs h f
  are_words bs p s (repeat l c) h f = are_words bs (looping p) s c h f
  are_words bs p s (repeat_while l b c e) h f = are_words bs (looping p) s c h.0 (every_front IsFine (reported_done bs (looping p) s c) (reported Truth bs p (after_done c s) e) f)
  are_words bs p s _ h f = tt

  are_words_each : (bs : List Binding) (p : Enclosing) (s : Spot) (cs : Commands) → SoundDoneEach bs p s cs → AllFine (reported_done_each bs p s cs) → AllWords (case_words_through (commands_named bs p s cs))
  are_words_each bs p s no_commands h f = tt
  are_words_each bs p s (also c cs) h f =
      every_both (λ (v : ℕ). v < 2 ^ 32) (case_words (command_named bs p s c)) _ (are_words bs p s c h.0 (every_front IsFine (reported_done bs p s c) _ f)) (are_words_each bs p (after_done c s) cs h.1 (every_back IsFine (reported_done bs p s c) _ f))

-- where declarations leave the frame
abbrev pub Same : Enclosing → Enclosing → Type 0
Same p r = (r.procedure ≡ p.procedure) × (exits r ≡ exits p)

same_then : (p r z : Enclosing) → Same p r → Same r z → Same p z
same_then p r z h i = (i.0 ∙ h.0, i.1 ∙ h.1)

same_started : (bs : List Binding) (p : Enclosing) (is : Starts) → Same p (place_after bs p is)
same_started bs p no_starts = (refl, refl)
same_started bs p (value e is) = same_started bs (deeper 1 p) is
same_started bs p (vector l e is) = same_started bs (deeper (words_of_start bs e + 1) p) is

pub same_one_defined : (bs : List Binding) (p : Enclosing) (d : Definition) → Same p (place_after_one_defined bs p d)
same_one_defined bs p (variables l xs is) = same_started bs p is
same_one_defined bs p _ = (refl, refl)

pub same_defined : (bs : List Binding) (p : Enclosing) (ds : Definitions) → Same p (place_after_defined bs p ds)
same_defined bs p no_definitions = (refl, refl)
same_defined bs p (define d ds) = same_then p (place_after_one_defined bs p d) (place_after_defined bs (place_after_one_defined bs p d) ds) (same_one_defined bs p d) (same_defined bs (place_after_one_defined bs p d) ds)

pub same_one_declared : (bs : List Binding) (p : Enclosing) (s : Spot) (d : Declaration) → Same p (place_after_one bs p s d)
same_one_declared bs p s (constants l k is) = (refl, refl)
same_one_declared bs p s (definitions l ds) = same_defined (procedures_in_scope (s.number + 1) ds bs) p ds

pub same_declared : (bs : List Binding) (p : Enclosing) (s : Spot) (ds : Declarations) → Same p (place_after_all bs p s ds)
same_declared bs p s no_declarations = (refl, refl)
same_declared bs p s (declare d ds) =
    same_then p (place_after_one bs p s d) (place_after_all (scope_after_one bs p s d) (place_after_one bs p s d) (after_one_declared d s) ds) (same_one_declared bs p s d) (same_declared (scope_after_one bs p s d) (place_after_one bs p s d) (after_one_declared d s) ds)

vector_words : (y : Option ℕ) → HasWordUpTo VEC_NUMBER y → words_of_vector (within VEC_NUMBER y) ≡ worth y + 1
vector_words None u = absurd (let n : None ≡ Some u.0 = u.1 in cc)
vector_words (Some v) u =
    let same : v ≡ u.0 = (let n : Some v ≡ Some u.0 = u.1 in cc) in
    let low : v ≤ VEC_NUMBER = (let g = u.2 in omega (arith, same, g)) in
    rw (le-ltb VEC_NUMBER v low) refl

-- the words of a vector in the frame
vector_room : (bs : List Binding) (p : Enclosing) (s : Spot) (l : ℕ) (e : Expression) (is : Starts) (d : ℕ) → p.depth ≡ d → HasWordUpTo VEC_NUMBER (constant_word bs e)
    → AllFine (reported_started bs p s (vector l e is)) → d + worth (constant_word bs e) + 2 ≤ FRAME_WORDS
vector_room bs p s l e is d same u f =
    let xs : List Point = constant bs p.procedure s e ++ at_most VEC_NUMBER s.place (at_expression e) vec_out_of_range (constant_word bs e) in
    let h = (every_back IsFine xs (pushed p (words_of_start bs e + 1)) (every_front IsFine (xs ++ pushed p (words_of_start bs e + 1)) _ f)).0 in
    let v = vector_words (constant_word bs e) u in omega (arith, h, v, same)

vector_rest : (bs : List Binding) (p : Enclosing) (s : Spot) (l : ℕ) (e : Expression) (is : Starts) → Fine (reported_started bs p s (vector l e is))
    → Fine (reported_started bs (deeper (words_of_start bs e + 1) p) (after_constant e s) is)
vector_rest bs p s l e is f =
    told_back (constant bs p.procedure s e ++ at_most VEC_NUMBER s.place (at_expression e) vec_out_of_range (constant_word bs e) ++ pushed p (words_of_start bs e + 1)) _ f

at_vector : (plan : ℕ → Use) (ts : List Target) (q : ℕ) (bs : List Binding) (p : Enclosing) (s : Spot) (l : ℕ) (e : Expression) (is : Starts) (d : ℕ) → At plan ts q bs p d
    → HasWordUpTo VEC_NUMBER (constant_word bs e) → AllFine (reported_started bs p s (vector l e is)) → At plan ts q bs (deeper (words_of_start bs e + 1) p) (d + worth (constant_word bs e) + 2)
at_vector plan ts q bs p s l e is d a u f =
    let much = vector_room bs p s l e is d a.at u f in
    let v = vector_words (constant_word bs e) u in
    at_deeper plan ts q bs p d (words_of_start bs e + 1) (d + worth (constant_word bs e) + 2) a (omega (arith, v)) (omega (arith, much))

started_at : (plan : ℕ → Use) (ts : List Target) (q : ℕ) (bs : List Binding) (p : Enclosing) (s : Spot) (is : Starts) (d : ℕ) → At plan ts q bs p d → d ≤ FRAME_WORDS → SoundStarted bs p s is
    → Fine (reported_started bs p s is) → At plan ts q bs (place_after bs p is) (after_starts d (starts_named bs p s is)) × (after_starts d (starts_named bs p s is) ≤ FRAME_WORDS)
started_at plan ts q bs p s no_starts d a top h f = (a, top)
started_at plan ts q bs p s (value e is) d a top h f =
    let much = told_room Value bs p s e tt (every_front IsFine (reported Value bs p s e) _ f.all) in let same = a.at in
    started_at plan ts q bs (deeper 1 p) (following e s) is (d + 1) (at_deeper plan ts q bs p d 1 (d + 1) a refl (omega (arith, top))) (omega (arith, much, same)) h.1 (told_back (reported Value bs p s e) _ f)
started_at plan ts q bs p s (vector l e is) d a top h f =
    started_at plan ts q bs (deeper (words_of_start bs e + 1) p) (after_constant e s) is (d + worth (constant_word bs e) + 2) (at_vector plan ts q bs p s l e is d a h.0 f.all)
    (vector_room bs p s l e is d a.at h.0 f.all) h.1 (vector_rest bs p s l e is f)

-- the variables of a LET, in a frame of depth m
variables_mean : (plan : ℕ → Use) (ts : List Target) (q k m : ℕ) (bs : List Binding) (p : Enclosing) (s : Spot) (xs : List Mention) (is : Starts) (d : ℕ) → At plan ts q bs p d → d ≤ FRAME_WORDS → SoundStarted bs p s is
    → Fine (reported_started bs p s is) → after_starts d (starts_named bs p s is) ≤ m → AllMean (Known plan ts q k m) (variables_of bs p xs is)
variables_mean plan ts q k m bs p s (x ∷ xs) (value e is) d a top h f low =
    let much = told_room Value bs p s e tt (every_front IsFine (reported Value bs p s e) _ f.all) in let same = a.at in let two = a.low in
    let grown = grown_starts (d + 1) (starts_named bs (deeper 1 p) (following e s) is) in (
      λ own. (omega (arith, same, two, top), omega (arith, same, top, grown, low)),
      variables_mean plan ts q k m bs (deeper 1 p) (following e s) xs is (d + 1) (at_deeper plan ts q bs p d 1 (d + 1) a refl (omega (arith, top))) (omega (arith, much, same)) h.1
          (told_back (reported Value bs p s e) _ f) low,
    )
variables_mean plan ts q k m bs p s (x ∷ xs) (vector l e is) d a top h f low =
    let v = worth (constant_word bs e) in
    let much = vector_room bs p s l e is d a.at h.0 f.all in let same = a.at in let two = a.low in let words = vector_words (constant_word bs e) h.0 in
    let grown = grown_starts (d + v + 2) (starts_named bs (deeper (words_of_start bs e + 1) p) (after_constant e s) is) in (
      λ own. (omega (arith, same, two, much, words), omega (arith, same, much, grown, low, words)),
      variables_mean plan ts q k m bs (deeper (words_of_start bs e + 1) p) (after_constant e s) xs is (d + v + 2) (at_vector plan ts q bs p s l e is d a h.0 f.all) much h.1 (vector_rest bs p s l e is f) low,
    )
variables_mean plan ts q k m bs p s _ _ d a top h f low = tt

one_defined_at : (plan : ℕ → Use) (ts : List Target) (q m : ℕ) (bs : List Binding) (p : Enclosing) (s : Spot) (x : Definition) (d : ℕ) → At plan ts q bs p d → d ≤ FRAME_WORDS → SoundOneDefined bs p s x
    → Fine (reported_one_defined m bs p s x) → At plan ts q bs (place_after_one_defined bs p x) (after_definition d (definition_named bs p s x)) × (after_definition d (definition_named bs p s x) ≤ FRAME_WORDS)
one_defined_at plan ts q m bs p s (variables l xs is) d a top h f = started_at plan ts q bs p (past (length xs) s) is d a top h (told_back (each_of m s.place xs) _ f)
one_defined_at plan ts q m bs p s _ d a top h f = (a, top)

defined_at : (plan : ℕ → Use) (ts : List Target) (q m : ℕ) (bs : List Binding) (p : Enclosing) (s : Spot) (ds : Definitions) (d : ℕ) → At plan ts q bs p d → d ≤ FRAME_WORDS → SoundDefined bs p s ds
    → Fine (reported_defined m bs p s ds) → At plan ts q bs (place_after_defined bs p ds) (after_definitions d (definitions_named bs p s ds)) × (after_definitions d (definitions_named bs p s ds) ≤ FRAME_WORDS)
defined_at plan ts q m bs p s no_definitions d a top h f = (a, top)
defined_at plan ts q m bs p s (define x ds) d a top h f =
    let one = one_defined_at plan ts q m bs p s x d a top h.0 (told_front (reported_one_defined m bs p s x) _ f) in
    defined_at plan ts q m bs (place_after_one_defined bs p x) (after_one_defined x s) ds _ one.0 one.1 h.1 (told_back (reported_one_defined m bs p s x) _ f)

all_variables : (plan : ℕ → Use) (ts : List Target) (q k j m : ℕ) (bs : List Binding) (p : Enclosing) (s : Spot) (ds : Definitions) (d : ℕ) → At plan ts q bs p d → d ≤ FRAME_WORDS → SoundDefined bs p s ds
    → Fine (reported_defined j bs p s ds) → after_definitions d (definitions_named bs p s ds) ≤ m → AllMean (Known plan ts q k m) (variables_in_scope bs p ds)
all_variables plan ts q k j m bs p s no_definitions d a top h f low = tt
all_variables plan ts q k j m bs p s (define (variables l xs is) ds) d a top h f low =
    let x : Definition = variables l xs is in
    let v : Spot = past (length xs) s in
    let started = told_back (each_of j s.place xs) (reported_started bs p v is) (told_front (reported_one_defined j bs p s x) _ f) in
    let one = started_at plan ts q bs p v is d a top h.0 started in
    let grown = grown_defined (after_starts d (starts_named bs p v is)) (definitions_named bs (place_after bs p is) (after_one_defined x s) ds) in
    every_both (λ (x : Binding). Known plan ts q k m x.bound) (variables_of bs p xs is) (variables_in_scope bs (place_after bs p is) ds)
    (variables_mean plan ts q k m bs p v xs is d a top h.0 started (omega (arith, grown, low)))
    (all_variables plan ts q k j m bs (place_after bs p is) (after_one_defined x s) ds (after_starts d (starts_named bs p v is)) one.0 one.1 h.1 (told_back (reported_one_defined j bs p s x) _ f) low)
all_variables plan ts q k j m bs p s (define x ds) d a top h f low =
    all_variables plan ts q k j m bs p (after_one_defined x s) ds d a top h.1 (told_back (reported_one_defined j bs p s x) _ f) low

-- behind declarations
pub at_manifests : (P : Bound → Type 0) (bs : List Binding) (is : Items) → ((v : Option ℕ) → P (Constant v)) → Sees P bs → Sees P (manifests_in_scope bs is)
at_manifests P bs no_items c h = h
at_manifests P bs (item l x e is) c h = at_manifests P (bind x (Constant (constant_word bs e)) bs) is c (sees_bind P x (Constant (constant_word bs e)) bs (c (constant_word bs e)) h)

pub at_globals : (P : Bound → Type 0) (bs : List Binding) (is : Items) (cs : List Binding) → ((v : Option ℕ) → P (Global v)) → Sees P cs → Sees P (globals_in_scope bs is cs)
at_globals P bs no_items cs c h = h
at_globals P bs (item l x e is) cs c h =
    at_globals P bs is (bind x (Global (within GLOBAL_NUMBER (constant_word bs e))) cs) c (sees_bind P x (Global (within GLOBAL_NUMBER (constant_word bs e))) cs (c (within GLOBAL_NUMBER (constant_word bs e))) h)

-- the procedures of a LET come into scope
at_procedures : (plan : ℕ → Use) (ts : List Target) (q : ℕ) (bs : List Binding) (p : Enclosing) (s v : Spot) (ds : Definitions) (d n : ℕ) {xs : List Point} {ks : List Mark} → At plan ts q bs p d
    → Placed plan ts n (labels_of_definitions (definitions_named (procedures_in_scope (s.number + 1) ds bs) p v ds)) xs (parts_of_definitions d n (definitions_named (procedures_in_scope (s.number + 1) ds bs) p v ds)) ks
    → At plan ts q (procedures_in_scope (s.number + 1) ds bs) p d
at_procedures plan ts q bs p s v ds d n a g = record {
  sees = sees_procedures (Known plan ts q p.procedure d) (s.number + 1) ds bs a.sees (λ y i among e. procedure_found plan ts i y (procedures_in_scope (s.number + 1) ds bs) p v ds d n e g.high among g.parts);
  at = a.at;
  low = a.low;
}

one_declared_at : (plan : ℕ → Use) (ts : List Target) (q : ℕ) (bs : List Binding) (p : Enclosing) (s : Spot) (x : Declaration) (d n : ℕ) → At plan ts q bs p d → d ≤ FRAME_WORDS → SoundOneDeclared bs p s x
    → Placed plan ts n (labels_of_declaration (declaration_named bs p s x)) (reported_one_declared bs p s x) (parts_of_declaration d n (declaration_named bs p s x)) (marks_of_declaration q d n (declaration_named bs p s x))
    → At plan ts q (scope_after_one bs p s x) (place_after_one bs p s x) (after_declaration d (declaration_named bs p s x)) × (after_declaration d (declaration_named bs p s x) ≤ FRAME_WORDS)
one_declared_at plan ts q bs p s (constants l sort.Manifest is) d n a top h g =
    (record { sees = at_manifests (Known plan ts q p.procedure d) bs is (λ v. tt) a.sees; at = a.at; low = a.low }, top)
one_declared_at plan ts q bs p s (constants l sort.Static is) d n a top h g =
    (record { sees = statics_seen plan ts (Known plan ts q p.procedure d) bs (numbered 1 s) is n bs g.low g.high g.parts (λ i g. g) a.sees; at = a.at; low = a.low }, top)
one_declared_at plan ts q bs p s (constants l sort.Global is) d n a top h g =
    (record { sees = at_globals (Known plan ts q p.procedure d) bs is bs (λ v. tt) a.sees; at = a.at; low = a.low }, top)
one_declared_at plan ts q bs p s (definitions l ds) d n a top h g =
    let cs = procedures_in_scope (s.number + 1) ds bs in
    let v : Spot = numbered (1 + procedures_in ds) s in
    let m = after_definitions d (definitions_named cs p v ds) in
    let r = place_after_defined cs p ds in
    let inner = at_procedures plan ts q bs p s v ds d n a g in
    let whole = defined_at plan ts q s.number cs p v ds d inner top h g.reported in (
      record {
        sees = sees_all (Known plan ts q r.procedure m) (variables_in_scope cs p ds) cs (all_variables plan ts q r.procedure s.number m cs p v ds d inner top h g.reported (omega arith)) whole.0.sees;
        at = whole.0.at;
        low = whole.0.low;
      },
      whole.1,
    )

declared_at : (plan : ℕ → Use) (ts : List Target) (q : ℕ) (bs : List Binding) (p : Enclosing) (s : Spot) (xs : Declarations) (d n : ℕ) → At plan ts q bs p d → d ≤ FRAME_WORDS → SoundDeclared bs p s xs
    → Placed plan ts n (labels_of_declarations (declarations_named bs p s xs)) (reported_declared bs p s xs) (parts_of_declarations d n (declarations_named bs p s xs)) (marks_of_declarations q d n (declarations_named bs p s xs))
    → At plan ts q (scope_after bs p s xs) (place_after_all bs p s xs) (after_declarations d (declarations_named bs p s xs)) × (after_declarations d (declarations_named bs p s xs) ≤ FRAME_WORDS)
declared_at plan ts q bs p s no_declarations d n a top h g = (a, top)
declared_at plan ts q bs p s (declare x xs) d n a top h g =
    let y = declaration_named bs p s x in
    let one = one_declared_at plan ts q bs p s x d n a top h.0 (front _ _ _ g (omega arith) (omega arith)) in
    declared_at plan ts q (scope_after_one bs p s x) (place_after_one bs p s x) (after_one_declared x s) xs (after_declaration d y) (n + labels_of_declaration y) one.0 one.1 h.1 (back _ _ _ g (omega arith) (omega arith))

room_at : (plan : ℕ → Use) (ts : List Target) (q : ℕ) (bs : List Binding) (p : Enclosing) (d : ℕ) → At plan ts q bs p d → p.depth + 1 ≤ FRAME_WORDS → d + 1 ≤ FRAME_WORDS
room_at plan ts q bs p d a h = let same = a.at in omega (arith, same, h)

-- the depth of an operand, by what is told of it
at_operand : (plan : ℕ → Use) (ts : List Target) (q : ℕ) (bs : List Binding) (p : Enclosing) (u : Spot) (e : Expression) (d i k : ℕ) → At plan ts q bs p d → d + i ≡ k → Fine (reported Value bs (deeper i p) u e)
    → At plan ts q bs (deeper i p) k
at_operand plan ts q bs p u e d i k a same f =
    let much = told_room Value bs (deeper i p) u e tt f.all in let at = a.at in at_deeper plan ts q bs p d i k a same (omega (arith, much, at, same))

no_values : (plan : ℕ → Use) (ts : List Target) (q d : ℕ) (xs : t.Lvalues) → GoodAllOnto plan ts q d xs t.none
no_values plan ts q d t.no_lvalues = tt
no_values plan ts q d (t.onto x xs) = tt

-- the first value and the others, as far as there are destinations
values_good : (plan : ℕ → Use) (ts : List Target) (q d n j : ℕ) (xs : t.Lvalues) (y : t.Term) (ys : t.Terms) → (AllRight plan (marks q d j y) → Good plan ts q d y)
    → ((m : ℕ) (zs : t.Lvalues) → AllRight plan (marks_by_turns (marks_from q d (j + labels y) ys) (marks_all_onto q (d + 1) m zs)) → GoodFrom plan ts q d ys zs)
    → AllRight plan (marks_by_turns (marks_from q d j (t.more y ys)) (marks_all_onto q (d + 1) n xs)) → GoodFrom plan ts q d (t.more y ys) xs
values_good plan ts q d n j t.no_lvalues y ys one others r = tt
values_good plan ts q d n j (t.onto x xs) y ys one others r =
    let front = marks q d j y ++ marks_onto q (d + 1) n x in
    (one (every_front (Right plan) (marks q d j y) _ (every_front (Right plan) front _ r)), others (n + labels_at x) xs (every_back (Right plan) front _ r))

-- EACH NODE of a procedure
module _ (plan : ℕ → Use) (ts : List Target) (q : ℕ) where
  mutual
    pub good : (ask : Asked) (bs : List Binding) (p : Enclosing) (s : Spot) (e : Expression) (d n : ℕ) → At plan ts q bs p d → Sound (role ask) bs p s e
        → Placed plan ts n (labels_if (asked ask bs p s e)) (reported (role ask) bs p s e) (parts_if d n (asked ask bs p s e)) (marks_if q d n (asked ask bs p s e) (turn ask)) → GoodIf plan ts q d (asked ask bs p s e)
    good (for_truth z) bs p s (binary l o.Both m x y) d n a h g = (
      good (for_truth false) bs p s x d (n + 1) a h.0 (behind_marks (connective_mark z n q d) (front _ _ _ g (omega arith) (omega arith))),
      good (for_truth z) bs p (past 1 (following x s)) y d (n + 1 + labels_if (condition_named bs p s x)) a h.1 (back _ _ _ g (omega arith) (omega arith)),
    )
    good (for_truth z) bs p s (binary l o.Either m x y) d n a h g = (
      good (for_truth true) bs p s x d (n + 1) a h.0 (behind_marks (connective_mark (not z) n q d) (front _ _ _ g (omega arith) (omega arith))),
      good (for_truth z) bs p (past 1 (following x s)) y d (n + 1 + labels_if (condition_named bs p s x)) a h.1 (back _ _ _ g (omega arith) (omega arith)),
    )
    good ask bs p s (name l x) d n a h g =
        (name_pushed plan ts q p.procedure d p.depth (bound_in bs x) h (a.sees x), room_at plan ts q bs p d a (told_room (role ask) bs p s (name l x) tt g.reported.all))
    good ask bs p s (unary l sign.Address e) d n a h g = (
      good_at bs p (past 1 s) (Address false (at_expression e)) e d n a h.0 h.1 (behind_told (prefixed sign.Address bs (past 1 s) e) g (omega arith) (omega arith)),
      room_at plan ts q bs p d a (told_room (role ask) bs p s (unary l sign.Address e) tt g.reported.all),
    )
    good ask bs p s (unary l sign.Not e) d n a h g = good (negated ask) bs p (past 1 s) e d n a h.1 g
    good ask bs p s (unary l y e) d n a h g = good for_value bs p (past 1 s) e d n a h.1 g
    good ask bs p s (choice l m c x y) d n a h g =
        let u : Spot = past 1 (following c s) in
        let inner = marked (marked g) in
        let fore : Placed plan ts (n + 2) (labels_if (condition_named bs p s c) + labels (term_named bs p u x)) _ _ _ = front _ _ _ inner (omega arith) (omega arith) in (
          good (for_truth false) bs p s c d (n + 2) a h.0 (front _ _ _ fore (omega arith) (omega arith)),
          good for_value bs p u x d (n + 2 + labels_if (condition_named bs p s c)) a h.1 (back _ _ _ fore (omega arith) (omega arith)),
          good for_value bs p (following x u) y d (n + 2 + labels_if (condition_named bs p s c) + labels (term_named bs p u x)) a h.2 (back _ _ _ inner (omega arith) (omega arith)),
        )
    good ask bs p s (apply l m e es) d n a h g =
        let u : Spot = past 1 (following e s) in
        let z : Enclosing = deeper (size es + 2) p in
        let v = term_named bs z s e in
        let vs = terms_named 1 bs (deeper 2 p) u es in
        let k = d + 2 + count vs in
        let same = count_named 1 bs (deeper 2 p) u es in
        let at = a.at in
        let jumps = marks_each q (d + 2) (n + labels v) vs in
        let much = told_room Value bs z s e tt (every_front IsFine (reported Value bs z s e) _ g.reported.all) in (
          good_each bs (deeper 2 p) u es (d + 2) (n + labels v) (at_deeper plan ts q bs p d 2 (d + 2) a refl (omega (arith, much, at))) h.1
              (within_it g (omega arith) (omega arith) (told_back _ _ g.reported) (every_back (PartRight plan ts) (parts k n v) _ g.parts) (every_front (Right plan) jumps _ g.marks)),
          good for_value bs z s e k n (at_deeper plan ts q bs p d (size es + 2) k a (omega (arith, same)) (omega (arith, same, much, at))) h.0
              (within_it g (omega arith) (omega arith) (told_front _ _ g.reported) (every_front (PartRight plan ts) (parts k n v) _ g.parts) (every_back (Right plan) jumps _ g.marks)),
        )
    good ask bs p s (valof l c) d n a h g =
        let cs = labels_in_scope p.procedure (s.number + 1) (labels_of c) bs in
        let z : Enclosing = labelled s.number (valued p) in
        let u : Spot = onward 1 (1 + length (labels_of c)) s in
        let much = room_at plan ts q bs p d a (every_back IsFine (reported_done cs z u c) (pushed p 1) g.reported.all).0 in
        let inner : At plan ts q bs z d = record { sees = a.sees; at = a.at; low = a.low } in
        let body : Placed plan ts (n + 1) (labels_in (command_named cs z u c)) (reported_done cs z u c) _ _ = within_it g (omega arith) (omega arith) (told_front _ (pushed p 1) g.reported) g.parts g.marks.1 in
        (good_in cs z u c d (n + 1) (enter_labels plan ts q p.procedure bs z z u c d (n + 1) (s.number + 1) inner (omega (arith, much)) body) (omega (arith, much)) h body, much)
    good ask bs p s (parens l e) d n a h g = good ask bs p (past 1 s) e d n a h g
    good for_value bs p s (binary l o.Both m x y) d n a h g = (
      good for_value bs p s x d n a h.0 (front _ _ _ g (omega arith) (omega arith)),
      good for_value bs (deeper 1 p) (past 1 (following x s)) y (d + 1) (n + labels (term_named bs p s x)) (at_operand plan ts q bs p (past 1 (following x s)) y d 1 (d + 1) a refl (told_back _ _ g.reported)) h.1 (back _ _ _ g (omega arith) (omega arith)),
    )
    good ask bs p s (binary l z m x y) d n a h g = (
      good for_value bs p s x d n a h.0 (front _ _ _ g (omega arith) (omega arith)),
      good for_value bs (deeper 1 p) (past 1 (following x s)) y (d + 1) (n + labels (term_named bs p s x)) (at_operand plan ts q bs p (past 1 (following x s)) y d 1 (d + 1) a refl (told_back _ _ g.reported)) h.1 (back _ _ _ g (omega arith) (omega arith)),
    )
    good ask bs p s e d n a h g = room_at plan ts q bs p d a (told_room (role ask) bs p s e tt g.reported.all)

    good_each : (bs : List Binding) (p : Enclosing) (s : Spot) (es : Expressions) (d n : ℕ) → At plan ts q bs p d → SoundEach 1 bs p s es
        → Placed plan ts n (labels_each (terms_named 1 bs p s es)) (reported_each 1 bs p s es) (parts_each d n (terms_named 1 bs p s es)) (marks_each q d n (terms_named 1 bs p s es)) → GoodEach plan ts q d (terms_named 1 bs p s es)
    good_each bs p s none d n a h g = tt
    good_each bs p s (more e es) d n a h g =
        let much = room_at plan ts q bs p d a (told_room Value bs p s e tt (every_front IsFine (reported Value bs p s e) _ g.reported.all)) in (
          good for_value bs p s e d n a h.0 (front _ _ _ g (omega arith) (omega arith)),
          good_each bs (deeper 1 p) (following e s) es (d + 1) (n + labels (term_named bs p s e)) (at_deeper plan ts q bs p d 1 (d + 1) a refl (omega (arith, much))) h.1 (back _ _ _ g (omega arith) (omega arith)),
        )

    -- what is asked for its address
    good_at : (bs : List Binding) (p : Enclosing) (s : Spot) (r : Role) (e : Expression) (d n : ℕ) → At plan ts q bs p d → addressed bs e ≡ true → Sound r bs p s e
        → Placed plan ts n (labels_at (lvalue_named bs p s e)) (reported r bs p s e) (parts_at d n (lvalue_named bs p s e)) (marks_at q d n (lvalue_named bs p s e)) → GoodAt plan ts q d (lvalue_named bs p s e)
    good_at bs p s r (name l x) d n a i h g = name_held plan ts q p.procedure d p.depth (bound_in bs x) h i (a.sees x)
    good_at bs p s r (parens l e) d n a i h g = good_at bs p (past 1 s) (parenthesised r) e d n a i h g
    good_at bs p s r (unary l sign.Contents e) d n a i h g = good for_value bs p (past 1 s) e d n a h.1 g
    good_at bs p s r (binary l o.Subscript m x y) d n a i h g = (
      good for_value bs p s x d n a h.0 (front _ _ _ g (omega arith) (omega arith)),
      good for_value bs (deeper 1 p) (past 1 (following x s)) y (d + 1) (n + labels (term_named bs p s x)) (at_operand plan ts q bs p (past 1 (following x s)) y d 1 (d + 1) a refl (told_back _ _ g.reported)) h.1 (back _ _ _ g (omega arith) (omega arith)),
    )
    good_at bs p s r e d n a i h g = absurd (false≢true i)

    -- what is stored into, with a value above
    good_onto : (bs : List Binding) (p : Enclosing) (s : Spot) (r : Role) (e : Expression) (d n : ℕ) → At plan ts q bs p d → d + 1 ≤ FRAME_WORDS → assigned bs e ≡ true → Sound r bs (deeper 1 p) s e
        → Placed plan ts n (labels_at (lvalue_named bs (deeper 1 p) s e)) (reported r bs (deeper 1 p) s e) (parts_at (d + 1) n (lvalue_named bs (deeper 1 p) s e)) (marks_onto q (d + 1) n (lvalue_named bs (deeper 1 p) s e))
        → GoodOnto plan ts q d (lvalue_named bs (deeper 1 p) s e)
    good_onto bs p s r (name l x) d n a top i h g = name_held plan ts q p.procedure d (deeper 1 p).depth (bound_in bs x) h i (a.sees x)
    good_onto bs p s r (parens l e) d n a top i h g = good_onto bs p (past 1 s) (parenthesised r) e d n a top i h g
    good_onto bs p s r (unary l sign.Contents e) d n a top i h g = good for_value bs (deeper 1 p) (past 1 s) e (d + 1) n (at_deeper plan ts q bs p d 1 (d + 1) a refl (omega (arith, top))) h.1 g
    good_onto bs p s r (binary l o.Subscript m x y) d n a top i h g =
        let z : Enclosing = deeper 1 p in
        let above = at_deeper plan ts q bs p d 1 (d + 1) a refl (omega (arith, top)) in (
          good for_value bs z s x (d + 1) n above h.0 (front _ _ _ g (omega arith) (omega arith)),
          good for_value bs (deeper 1 z) (past 1 (following x s)) y (d + 1 + 1) (n + labels (term_named bs z s x)) (at_operand plan ts q bs z (past 1 (following x s)) y (d + 1) 1 (d + 1 + 1) above refl (told_back _ _ g.reported)) h.1 (back _ _ _ g (omega arith) (omega arith)),
        )
    good_onto bs p s r (binary l o.Byte m x y) d n a top i h g =
        let z : Enclosing = deeper 1 p in
        let above = at_deeper plan ts q bs p d 1 (d + 1) a refl (omega (arith, top)) in (
          good for_value bs z s x (d + 1) n above h.0 (front _ _ _ g (omega arith) (omega arith)),
          good for_value bs (deeper 1 z) (past 1 (following x s)) y (d + 1 + 1) (n + labels (term_named bs z s x)) (at_operand plan ts q bs z (past 1 (following x s)) y (d + 1) 1 (d + 1 + 1) above refl (told_back _ _ g.reported)) h.1 (back _ _ _ g (omega arith) (omega arith)),
        )
    good_onto bs p s r e d n a top i h g = absurd (false≢true i)

    -- an assignment: values and destinations by turns
    good_from : (bs : List Binding) (p : Enclosing) (s : Spot) (es : Expressions) (d n m : ℕ) (xs : t.Lvalues) → At plan ts q bs p d → SoundEach 0 bs p s es
        → Placed plan ts n (labels_each (terms_named 0 bs p s es)) (reported_each 0 bs p s es) (parts_from d n (terms_named 0 bs p s es)) (marks_by_turns (marks_from q d n (terms_named 0 bs p s es)) (marks_all_onto q (d + 1) m xs))
        → GoodFrom plan ts q d (terms_named 0 bs p s es) xs
    good_from bs p s (more e es) d n m (t.onto x xs) a h g =
        let v = term_named bs p s e in
        let much = room_at plan ts q bs p d a (told_room Value bs p s e tt (every_front IsFine (reported Value bs p s e) _ g.reported.all)) in
        let fore : Placed plan ts n (labels v) (reported Value bs p s e) (parts d n v) (marks q d n v ++ marks_onto q (d + 1) m x) = front _ _ _ g (omega arith) (omega arith) in (
          good for_value bs p s e d n a h.0 (within_it fore (omega arith) (omega arith) fore.reported fore.parts (every_front (Right plan) (marks q d n v) _ fore.marks)),
          good_from bs (deeper 0 p) (following e s) es d (n + labels v) (m + labels_at x) xs (at_deeper plan ts q bs p d 0 d a (omega arith) (omega (arith, much))) h.1 (back _ _ (marks q d n v ++ marks_onto q (d + 1) m x) g (omega arith) (omega arith)),
        )
    good_from bs p s _ d n m _ a h g = tt

    good_all_onto : (bs : List Binding) (p : Enclosing) (s : Spot) (xs : Expressions) (d n m : ℕ) (es : t.Terms) → At plan ts q bs p d → d + 1 ≤ FRAME_WORDS → SoundDestinations bs (deeper 1 p) s xs
        → Placed plan ts n (labels_onto (lvalues_named bs (deeper 1 p) s xs)) (reported_destinations bs (deeper 1 p) s xs) (parts_onto (d + 1) n (lvalues_named bs (deeper 1 p) s xs))
        (marks_by_turns (marks_from q d m es) (marks_all_onto q (d + 1) n (lvalues_named bs (deeper 1 p) s xs))) → GoodAllOnto plan ts q d (lvalues_named bs (deeper 1 p) s xs) es
    good_all_onto bs p s (more x xs) d n m (t.more e es) a top h g =
        let v = lvalue_named bs (deeper 1 p) s x in
        let us : List Point = unless (assigned bs x) (at s.place (at_expression x) not_assignable) in
        let vs : List Point = reported (Destination false (at_expression x)) bs (deeper 1 p) s x in
        let turns = marks q d m e ++ marks_onto q (d + 1) n v in
        let fore : Placed plan ts n (labels_at v) (us ++ vs) (parts_at (d + 1) n v) turns = front _ _ _ g (omega arith) (omega arith) in (
          good_onto bs p s (Destination false (at_expression x)) x d n a top h.0 h.1 (behind_marks (marks q d m e) (behind_told us fore (omega arith) (omega arith))),
          good_all_onto bs p (following x s) xs d (n + labels_at v) (m + labels e) es a top h.2 (back (us ++ vs) (parts_at (d + 1) n v) turns g (omega arith) (omega arith)),
        )
    good_all_onto bs p s _ d n m _ a top h g = tt

    -- a command
    pub good_in : (bs : List Binding) (p : Enclosing) (s : Spot) (c : Command) (d n : ℕ) → At plan ts q bs p d → d ≤ FRAME_WORDS → SoundDone bs p s c
        → Placed plan ts n (labels_in (command_named bs p s c)) (reported_done bs p s c) (parts_in d n (command_named bs p s c)) (marks_in q d n (command_named bs p s c)) → GoodIn plan ts q (exits p) d (command_named bs p s c)
    good_in bs p s (assign l xs none) d n a top h g = (no_values plan ts q d (lvalues_named bs (deeper 1 p) s xs), tt)
    good_in bs p s (assign l xs (more e es)) d n a top h g =
        let u : Spot = after_each xs s in
        let v = lvalues_named bs (deeper 1 p) s xs in
        let j = n + labels_onto v in
        let y = term_named bs p u e in
        let us : List Point = reported_destinations bs (deeper 1 p) s xs in
        let vs : List Point = reported Value bs p u e in
        let values = told_back us _ g.reported in
        let much = room_at plan ts q bs p d a (told_room Value bs p u e tt (every_front IsFine vs _ values.all)) in
        let owns = every_back (PartRight plan ts) (parts_onto (d + 1) n v) _ g.parts in (
          good_all_onto bs p s xs d n j (terms_named 0 bs p u (more e es)) a much h.0 (within_it g (omega arith) (omega arith) (told_front us _ g.reported) (every_front (PartRight plan ts) (parts_onto (d + 1) n v) _ g.parts) g.marks),
          values_good plan ts q d n j v y (terms_named 0 bs (deeper 0 p) (following e u) es)
              (λ k. good for_value bs p u e d j a h.1.0 (within_it g (omega arith) (omega arith) (told_front vs _ values) (every_front (PartRight plan ts) (parts d j y) _ owns) k))
              (λ m ks k. good_from bs (deeper 0 p) (following e u) es d (j + labels y) m ks (at_deeper plan ts q bs p d 0 d a (omega arith) (omega (arith, much))) h.1.1
              (within_it g (omega arith) (omega arith) (told_back vs _ values) (every_back (PartRight plan ts) (parts d j y) _ owns) k)) g.marks,
        )
    good_in bs p s (call l e es) d n a top h g =
        let u : Spot = following e s in
        let z : Enclosing = deeper (size es + 2) p in
        let v = term_named bs z s e in
        let vs = terms_named 1 bs (deeper 2 p) u es in
        let k = d + 2 + count vs in
        let same = count_named 1 bs (deeper 2 p) u es in
        let at = a.at in
        let jumps = marks_each q (d + 2) (n + labels v) vs in
        let much = told_room Value bs z s e tt (every_front IsFine (reported Value bs z s e) _ g.reported.all) in (
          good_each bs (deeper 2 p) u es (d + 2) (n + labels v) (at_deeper plan ts q bs p d 2 (d + 2) a refl (omega (arith, much, at))) h.1
              (within_it g (omega arith) (omega arith) (told_back _ _ g.reported) (every_back (PartRight plan ts) (parts k n v) _ g.parts) (every_front (Right plan) jumps _ g.marks)),
          good for_value bs z s e k n (at_deeper plan ts q bs p d (size es + 2) k a (omega (arith, same)) (omega (arith, same, much, at))) h.0
              (within_it g (omega arith) (omega arith) (told_front _ _ g.reported) (every_front (PartRight plan ts) (parts k n v) _ g.parts) (every_back (Right plan) jumps _ g.marks)),
        )
    good_in bs p s (goto l x) d n a top h g = name_gone plan ts q p.procedure d (bound_in bs x.letters) h (a.sees x.letters)
    good_in bs p s (label l x c) d n a top h g =
        good_in bs p (past 1 s) c d (n + 1) a top h.1 (within_it g (omega arith) (omega arith) (told_back (one_of p.labels s.place l x ++ its_meaning (bound_in bs x)) _ g.reported) g.parts.1 g.marks.1)
    good_in bs p s (case_of l e c) d n a top h g =
        good_in bs p (after_constant e (past 1 s)) c d (n + 1) a top h.2
        (behind_told (chosen_at p.switch s.place l (constant_word bs e) ++ constant bs p.procedure (past 1 s) e) (marked g) (omega arith) (omega arith))
    good_in bs p s (default l c) d n a top h g = good_in bs p (past 1 s) c d (n + 1) a top h.1 (behind_told (defaulted_at p.switch s.place l) (marked g) (omega arith) (omega arith))
    good_in bs p s (when l z e c) d n a top h g = (
      good (for_truth (not z)) bs p s e d (n + 1) a h.0 (front _ _ _ (marked g) (omega arith) (omega arith)),
      good_in bs p (following e s) c d (n + 1 + labels_if (condition_named bs p s e)) a top h.1 (back _ _ _ (marked g) (omega arith) (omega arith)),
    )
    good_in bs p s (test l e x y) d n a top h g =
        let inner = marked (marked g) in
        let fore : Placed plan ts (n + 2) (labels_if (condition_named bs p s e) + labels_in (command_named bs p (following e s) x)) _ _ _ = front _ _ _ inner (omega arith) (omega arith) in (
          good (for_truth false) bs p s e d (n + 2) a h.0 (front _ _ _ fore (omega arith) (omega arith)),
          good_in bs p (following e s) x d (n + 2 + labels_if (condition_named bs p s e)) a top h.1 (back _ _ _ fore (omega arith) (omega arith)),
          good_in bs p (after_done x (following e s)) y d (n + 2 + labels_if (condition_named bs p s e) + labels_in (command_named bs p (following e s) x)) a top h.2 (back _ _ _ inner (omega arith) (omega arith)),
        )
    good_in bs p s (while l z e c) d n a top h g =
        let v = condition_named bs p s e in
        let j = n + 3 + labels_if v in
        let jumps = marks_in q d j (command_named bs (looping p) (following e s) c) in
        let inner : At plan ts q bs (looping p) d = record { sees = a.sees; at = a.at; low = a.low } in (
          good (for_truth z) bs p s e d (n + 3) a h.0 (within_it g (omega arith) (omega arith) (told_front _ _ g.reported) (every_front (PartRight plan ts) (parts_if d (n + 3) v) _ g.parts) (every_back (Right plan) jumps _ g.marks.1.1.1)),
          good_in bs (looping p) (following e s) c d j inner top h.1 (within_it g (omega arith) (omega arith) (told_back _ _ g.reported) (every_back (PartRight plan ts) (parts_if d (n + 3) v) _ g.parts) (every_front (Right plan) jumps _ g.marks.1.1.1)),
        )
    good_in bs p s (for_loop l x e y k c) d n a top h g =
        let u : Spot = onward (symbols_each k) 0 (following y (following e s)) in
        let z : Enclosing = labelled u.number (looping (deeper 2 p)) in
        let cs = bind x.letters (Variable p.procedure p.depth) bs in
        let ds = labels_in_scope p.procedure (u.number + 1) (labels_of c) cs in
        let i : Spot = numbered (1 + length (labels_of c)) u in
        let start = reported Value bs p s e in
        let limit = reported Value bs (deeper 1 p) (following e s) y in
        let steps = each_constant bs p.procedure (following y (following e s)) k in
        let f = told_front (start ++ limit ++ steps ++ pushed p 4) (reported_done ds z i c) g.reported in
        let much = (every_back IsFine (start ++ limit ++ steps) (pushed p 4) f.all).0 in
        let at = a.at in
        let two = a.low in
        let v = term_named bs p s e in
        let w = term_named bs (deeper 1 p) (following e s) y in
        let ps = parts d (n + 4) v ++ parts (d + 1) (n + 4 + labels v) w in
        let ms = marks q d (n + 4) v ++ marks q (d + 1) (n + 4 + labels v) w in
        let deep = at_deeper plan ts q bs p d 2 (d + 2) a refl (omega (arith, much, at)) in
        let inner : At plan ts q cs z (d + 2) = record {
          sees = sees_bind (Known plan ts q p.procedure (d + 2)) x.letters (Variable p.procedure p.depth) bs (λ own. (omega (arith, at, two), omega (arith, at))) deep.sees;
          at = deep.at;
          low = deep.low;
        } in
        let fore : Placed plan ts (n + 4) (labels v + labels w) (start ++ limit) ps ms =
        within_it g (omega arith) (omega arith) (told_front (start ++ limit) steps (told_front (start ++ limit ++ steps) (pushed p 4) f)) (every_front (PartRight plan ts) ps _ g.parts) (every_front (Right plan) ms _ g.marks.1.1.1.1) in
        let body : Placed plan ts (n + 4 + labels v + labels w) (labels_in (command_named ds z i c)) (reported_done ds z i c) _ _ =
        within_it g (omega arith) (omega arith) (told_back (start ++ limit ++ steps ++ pushed p 4) (reported_done ds z i c) g.reported) (every_back (PartRight plan ts) ps _ g.parts) (every_back (Right plan) ms _ g.marks.1.1.1.1) in (
          good for_value bs p s e d (n + 4) a h.0 (front _ _ _ fore (omega arith) (omega arith)),
          good for_value bs (deeper 1 p) (following e s) y (d + 1) (n + 4 + labels v) (at_deeper plan ts q bs p d 1 (d + 1) a refl (omega (arith, much, at))) h.1 (back _ _ _ fore (omega arith) (omega arith)),
          omega (arith, much, at),
          good_in ds z i c (d + 2) (n + 4 + labels v + labels w) (enter_labels plan ts q p.procedure cs z z i c (d + 2) (n + 4 + labels v + labels w) (u.number + 1) inner (omega (arith, much, at)) body) (omega (arith, much, at)) h.3 body,
        )
    good_in bs p s (switch l e c) d n a top h g =
        let z : Enclosing = switching (following e s).number p in
        let u : Spot = numbered 1 (following e s) in
        let inner : At plan ts q bs z d = record { sees = a.sees; at = a.at; low = a.low } in
        let body : Placed plan ts (n + 1 + labels (term_named bs p s e)) (labels_in (command_named bs z u c)) (reported_done bs z u c) _ _ = back _ _ _ (marked g) (omega arith) (omega arith) in (
          good for_value bs p s e d (n + 1) a h.0 (front _ _ _ (marked g) (omega arith) (omega arith)),
          subst (λ (ws : List ℕ). AllDiffer ws) (same_words bs z u c h.1) (cases_differ g.reported.claims bs p s l e c g.reported.clean).0,
          are_words bs z u c h.1 body.reported.all,
          good_in bs z u c d (n + 1 + labels (term_named bs p s e)) inner top h.1 body,
        )
    good_in bs p s (result l e) d n a top h g =
        (h.0, good for_value bs p (past 1 s) e d n a h.1 (behind_told (unless p.in_valof (at s.place l no_result_or_return)) g (omega arith) (omega arith)))
    good_in bs p s (simple l w.Break) d n a top h g = h
    good_in bs p s (simple l w.Loop) d n a top h g = h
    good_in bs p s (simple l w.EndCase) d n a top h g = h
    good_in bs p s (block l no_declarations cs) d n a top h g =
        good_through bs p s cs d n a top h (within_it g (omega arith) (omega arith) g.reported (subst (λ (m : ℕ). PartsRight plan ts (parts_through d m (commands_named bs p s cs))) (no_more n) g.parts) g.marks)
    good_in bs p s (block l (declare x xs) cs) d n a top h g =
        let u : Spot = after_declared (declare x xs) s in
        let z : Enclosing = labelled u.number (place_after_all bs p s (declare x xs)) in
        let es = scope_after bs p s (declare x xs) in
        let ds = labels_in_scope p.procedure (u.number + 1) (labels_of_each cs) es in
        let i : Spot = numbered (1 + length (labels_of_each cs)) u in
        let y = declarations_named bs p s (declare x xs) in
        let j = n + labels_of_declarations y in
        let e = after_declarations d y in
        let fore : Placed plan ts n (labels_of_declarations y) (reported_declared bs p s (declare x xs)) (parts_of_declarations d n y) (marks_of_declarations q d n y) = front _ _ _ g (omega arith) (omega arith) in
        let rest : Placed plan ts j (labels_through (commands_named ds z i cs)) (reported_done_each ds z i cs) (parts_through e j (commands_named ds z i cs)) (marks_through q e j (commands_named ds z i cs)) = back _ _ _ g (omega arith) (omega arith) in
        let v = declaration_named bs p s x in
        let first : Placed plan ts n (labels_of_declaration v) (reported_one_declared bs p s x) (parts_of_declaration d n v) (marks_of_declaration q d n v) = front _ _ _ fore (omega arith) (omega arith) in
        let one = one_declared_at plan ts q bs p s x d n a top h.0.0 first in
        let whole = declared_at plan ts q bs p s (declare x xs) d n a top h.0 fore in
        let inner : At plan ts q es z e = record { sees = whole.0.sees; at = whole.0.at; low = whole.0.low } in
        let body = good_through ds z i cs e j (enter_labels_each plan ts q p.procedure es z z i cs e j (u.number + 1) inner whole.1 rest) whole.1 h.1 rest in (
          (
            good_one_declared bs p s x d n a top h.0.0 first,
            good_declared (scope_after_one bs p s x) (place_after_one bs p s x) (after_one_declared x s) xs (after_declaration d v) (n + labels_of_declaration v) one.0 one.1 h.0.1 (back _ _ _ fore (omega arith) (omega arith)),
          ),
          subst (λ (v : Exits). GoodThrough plan ts q v e (commands_named ds z i cs)) (same_declared bs p s (declare x xs)).1 body,
        )
    good_in bs p s (repeat l c) d n a top h g =
        good_in bs (looping p) s c d (n + 2) (record { sees = a.sees; at = a.at; low = a.low }) top h (within_it g (omega arith) (omega arith) g.reported g.parts g.marks.1.1)
    good_in bs p s (repeat_while l z c e) d n a top h g =
        let inner = marked (marked (marked g)) in (
          good_in bs (looping p) s c d (n + 3) (record { sees = a.sees; at = a.at; low = a.low }) top h.0 (front _ _ _ inner (omega arith) (omega arith)),
          good (for_truth z) bs p (after_done c s) e d (n + 3 + labels_in (command_named bs (looping p) s c)) a h.1 (back _ _ _ inner (omega arith) (omega arith)),
        )
    good_in bs p s _ d n a top h g = tt

    good_through : (bs : List Binding) (p : Enclosing) (s : Spot) (cs : Commands) (d n : ℕ) → At plan ts q bs p d → d ≤ FRAME_WORDS → SoundDoneEach bs p s cs
        → Placed plan ts n (labels_through (commands_named bs p s cs)) (reported_done_each bs p s cs) (parts_through d n (commands_named bs p s cs)) (marks_through q d n (commands_named bs p s cs))
        → GoodThrough plan ts q (exits p) d (commands_named bs p s cs)
    good_through bs p s no_commands d n a top h g = tt
    good_through bs p s (also c cs) d n a top h g =
        (good_in bs p s c d n a top h.0 (front _ _ _ g (omega arith) (omega arith)), good_through bs p (after_done c s) cs d (n + labels_in (command_named bs p s c)) a top h.1 (back _ _ _ g (omega arith) (omega arith)))

    good_declared : (bs : List Binding) (p : Enclosing) (s : Spot) (xs : Declarations) (d n : ℕ) → At plan ts q bs p d → d ≤ FRAME_WORDS → SoundDeclared bs p s xs
        → Placed plan ts n (labels_of_declarations (declarations_named bs p s xs)) (reported_declared bs p s xs) (parts_of_declarations d n (declarations_named bs p s xs)) (marks_of_declarations q d n (declarations_named bs p s xs))
        → GoodDeclared plan ts q d (declarations_named bs p s xs)
    good_declared bs p s no_declarations d n a top h g = tt
    good_declared bs p s (declare x xs) d n a top h g =
        let y = declaration_named bs p s x in
        let fore : Placed plan ts n (labels_of_declaration y) (reported_one_declared bs p s x) (parts_of_declaration d n y) (marks_of_declaration q d n y) = front _ _ _ g (omega arith) (omega arith) in
        let one = one_declared_at plan ts q bs p s x d n a top h.0 fore in (
          good_one_declared bs p s x d n a top h.0 fore,
          good_declared (scope_after_one bs p s x) (place_after_one bs p s x) (after_one_declared x s) xs (after_declaration d y) (n + labels_of_declaration y) one.0 one.1 h.1 (back _ _ _ g (omega arith) (omega arith)),
        )

    good_one_declared : (bs : List Binding) (p : Enclosing) (s : Spot) (x : Declaration) (d n : ℕ) → At plan ts q bs p d → d ≤ FRAME_WORDS → SoundOneDeclared bs p s x
        → Placed plan ts n (labels_of_declaration (declaration_named bs p s x)) (reported_one_declared bs p s x) (parts_of_declaration d n (declaration_named bs p s x)) (marks_of_declaration q d n (declaration_named bs p s x))
        → GoodOneDeclared plan ts q d (declaration_named bs p s x)
    good_one_declared bs p s (constants l sort.Manifest is) d n a top h g = tt
    good_one_declared bs p s (definitions l ds) d n a top h g =
        let v : Spot = numbered (1 + procedures_in ds) s in
        good_defined s.number (procedures_in_scope (s.number + 1) ds bs) p v ds d n (at_procedures plan ts q bs p s v ds d n a g) top h g
    good_one_declared bs p s _ d n a top h g = tt

    good_defined : (m : ℕ) (bs : List Binding) (p : Enclosing) (s : Spot) (ds : Definitions) (d n : ℕ) → At plan ts q bs p d → d ≤ FRAME_WORDS → SoundDefined bs p s ds
        → Placed plan ts n (labels_of_definitions (definitions_named bs p s ds)) (reported_defined m bs p s ds) (parts_of_definitions d n (definitions_named bs p s ds)) (marks_of_definitions q d n (definitions_named bs p s ds))
        → GoodDefined plan ts q d (definitions_named bs p s ds)
    good_defined m bs p s no_definitions d n a top h g = tt
    good_defined m bs p s (define x ds) d n a top h g =
        let one = one_defined_at plan ts q m bs p s x d a top h.0 (told_front _ _ g.reported) in (
          good_one_defined m bs p s x d n a top h.0 (front _ _ _ g (omega arith) (omega arith)),
          good_defined m bs (place_after_one_defined bs p x) (after_one_defined x s) ds (after_definition d (definition_named bs p s x)) (n + labels_of_definition (definition_named bs p s x)) one.0 one.1 h.1 (back _ _ _ g (omega arith) (omega arith)),
        )

    good_one_defined : (m : ℕ) (bs : List Binding) (p : Enclosing) (s : Spot) (x : Definition) (d n : ℕ) → At plan ts q bs p d → d ≤ FRAME_WORDS → SoundOneDefined bs p s x
        → Placed plan ts n (labels_of_definition (definition_named bs p s x)) (reported_one_defined m bs p s x) (parts_of_definition d n (definition_named bs p s x)) (marks_of_definition q d n (definition_named bs p s x))
        → GoodOneDefined plan ts q d (definition_named bs p s x)
    good_one_defined m bs p s (variables l xs is) d n a top h g = good_started bs p (past (length xs) s) is d n a top h (behind_told (each_of m s.place xs) g (omega arith) (omega arith))
    good_one_defined m bs p s _ d n a top h g = tt

    good_started : (bs : List Binding) (p : Enclosing) (s : Spot) (is : Starts) (d n : ℕ) → At plan ts q bs p d → d ≤ FRAME_WORDS → SoundStarted bs p s is
        → Placed plan ts n (labels_of_starts (starts_named bs p s is)) (reported_started bs p s is) (parts_of_starts d n (starts_named bs p s is)) (marks_of_starts q d n (starts_named bs p s is))
        → GoodStarted plan ts q d (starts_named bs p s is)
    good_started bs p s no_starts d n a top h g = tt
    good_started bs p s (value e is) d n a top h g =
        let much = room_at plan ts q bs p d a (told_room Value bs p s e tt (every_front IsFine (reported Value bs p s e) _ g.reported.all)) in (
          good for_value bs p s e d n a h.0 (front _ _ _ g (omega arith) (omega arith)),
          good_started bs (deeper 1 p) (following e s) is (d + 1) (n + labels (term_named bs p s e)) (at_deeper plan ts q bs p d 1 (d + 1) a refl (omega (arith, much))) much h.1 (back _ _ _ g (omega arith) (omega arith)),
        )
    good_started bs p s (vector l e is) d n a top h g =
        let much = vector_room bs p s l e is d a.at h.0 g.reported.all in (
          much,
          good_started bs (deeper (words_of_start bs e + 1) p) (after_constant e s) is (d + worth (constant_word bs e) + 2) n (at_vector plan ts q bs p s l e is d a h.0 g.reported.all) much h.1
              (within_it g (omega arith) (omega arith) (vector_rest bs p s l e is g.reported) g.parts g.marks),
        )
