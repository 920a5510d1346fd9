-- Declarations are laid where the scheme puts them, before what is laid in their scope: MANIFEST, STATIC, GLOBAL and LET.
use Rattle.bk_simulation.proofs.Words.{declared-next, Part, static_item, term_named, parts, ◌≡◌, ℕ, ◌+◌, ◌<◌, ◌≤◌, Bool, true, false, List, [], ◌∷◌, ◌++◌, cond, refl, sym, ap, ◌∙◌, subst, arith, append_assoc, length, Option, Some, None, le-ltb, suc, ◌^◌, slice_get, Sort, Items, Declaration, Declarations, Definitions, Expression, Starts, Enclosing, Binding, bind_all, bound_in, procedures_in_scope, manifests_in_scope, statics_in_scope, globals_in_scope, place_after_defined, scope_after_one, place_after_one, scope_after, place_after_all, labels_in_scope, SoundDeclared, SoundOneDeclared, SoundStarted, SoundDefined, HasWord, StaticsSound, Spot, procedures_in, after_one_declared, Stmt, Store, Address, Stack, DataLabel, DataNumber, after_definitions, after_declaration, after_declarations, has_variables, after_starts, labels_of_declaration, labels, labels_of_procedure, labels_of_definition, definitions_named, declaration_named, declarations_named, meant, worth, starts_named, definition_named, statics_named, parts_of_definitions, parts_of_declaration, parts_of_declarations, parts_of_starts, parts_of_definition, parts_of_items, outermost, definitions_code, declaration_code, declarations_code, value_code, starts_code, goal, goal_of, Around as Surroundings, Named, Environment, bind_procedures, within_let, objects_of_definitions, objects_of_declaration, objects_of_declarations, objects, objects_of_command, objects_of_starts, count, constant_in, Lasting, declared, all_declared, of_items, of_declaration, of_declarations, of_definitions, of_starts, command, expression, words, static_words, VEC_NUMBER, constant_word, labels_of, with_formals, within, words_of_vector, words_of_start, place_after, deeper, Local, unwrap_or, signed, Placed, item_words, Goal, first_bytes, EndProcedure, Return, ReturnItem, command_code, foreign, letters, bind_formals, false≢true, of_command, in_scope, of_expression, bind_each, procedure_code, command_named, parts_in, same_defined, RegularItems, RegularDeclaration, RegularDeclarations, RegularDefinitions, RegularStarts, Regular, inl, inr, bind, is_global, procedure_in_scope, Target, after_definition, target_of_word, AllFound, AmongProcedures, Looked, look_procedure}
use Rattle.bk_simulation.proofs.LaidAssigned.{Doing, words_labels, alone_lies, names_bound, ValofsLie, laid_code}
use Rattle.bk_simulation.proofs.Renamed.{static_places, AreBases, renames_manifests, renames_statics, renames_globals, AreProcedures, from_spots, spots_in, variables_in, spots_words, renames_procedures, renames_variables, bound_agree, next_bound, foreign_spots, foreign_agree, foreign_mean, hidden_are, slots_of, itself}
use Rattle.bk_simulation.proofs.LaidActs.{BlocksLie, laid_act}
use Rattle.bk_simulation.proofs.Terms.{procedure, Sort as sort, Bound as b}
use Rattle.bk_simulation.proofs.LaidProcedures.{scene_of, body_lies, formals_around, words_formals, agree_formals, procedure_bases}
use Rattle.bk_simulation.proofs.HeldData.{statement_data, statement_below, items_are, worth_is, words_paid, word_base, turns_one_declared, turns_declared, turns_defined, turns_started, of_light, in_light, with_names, Setting, Scene, Exits, Spot as Slot, NamedIn, defines_variables, variables_bound, Renames, IsOneDeclared, AreDeclared, AreDefined, pushes, AreStarts, IsCode, IsAlone, Agree, there_in, IsNumbered, passed, written, Home, home, Bases, no_bases, bases_so, bases_of, bases_under, bases_some, Lies, both_bases, new_base, then_bases, lie, bases_within, data_at, FoundParts, found_front, found_back, DataIn, data_within, within_at, HasWords, Around, InNames, joined_two, around_deeper, constants_agree, words_manifests, words_statics, words_globals, words_procedures, BaseOf, constant_small, InData}
use Rattle.bk_tree.specs.Tree as t
use Rattle.bk_scope.specs.Spots as spot
use Rattle.bk_scope.specs.Places as place

-- ---- The words of a LET's procedures: where their code and data are found, each has its place where its number leads.

-- the bases of their objects, where names in scope are these
abbrev pub WordsBased : List ℕ → Placed → List Binding → Enclosing → Spot → ℕ → ℕ → Definitions → Type 0
WordsBased all own bs p s i n t.no_definitions = Unit {0}
WordsBased all own bs p s i n (t.define (t.routine l x fs c) ds) =
    BaseOf all i (word_base own n (meant (bound_in bs x)))
    × WordsBased all own bs p (spot.after_one_defined (t.routine l x fs c) s) (i + (1 + objects_of_command c)) (n + labels_of_definition (definition_named bs p s (t.routine l x fs c))) ds
WordsBased all own bs p s i n (t.define (t.function l x fs e) ds) =
    BaseOf all i (word_base own n (meant (bound_in bs x)))
    × WordsBased all own bs p (spot.after_one_defined (t.function l x fs e) s) (i + (1 + objects e)) (n + labels_of_definition (definition_named bs p s (t.function l x fs e))) ds
WordsBased all own bs p s i n (t.define (t.variables l xs is) ds) =
    WordsBased all own bs (place_after bs p is) (spot.after_one_defined (t.variables l xs is) s) (i + objects_of_starts is) (n + labels_of_definition (definition_named bs p s (t.variables l xs is))) ds

-- the target of a procedure whose name means a static word
own_target : (ts : List Target) (n j : ℕ) (bs : List Binding) (x : List ℕ) → bound_in bs x ≡ Some (b.Static j) → AllFound ts (target_of_word (n + 1) (meant (bound_in bs x))) → goal_of ts j ≡ goal (n + 1) 0
own_target ts n j bs x e f = let g : AllFound ts (target_of_word (n + 1) (b.Static j)) = subst (λ y. AllFound ts (target_of_word (n + 1) (meant y))) e f in g.0

-- the targets of later procedures have later labels
record LaterTarget (ts : List Target) (n j : ℕ) : Type 0 where
  pub label : ℕ
  pub later : n < label
  pub leads : goal_of ts j ≡ goal label 0

later_on : (ts : List Target) (n m j : ℕ) → n ≤ m → LaterTarget ts m j → LaterTarget ts n j
later_on ts n m j e t = let l = t.later in record { label = t.label; later = omega (arith, l, e); leads = t.leads }

later_target : (own : Placed) (ts : List Target) (bs : List Binding) (p : Enclosing) (s : Spot) (d n j : ℕ) (x : List ℕ) (ds : Definitions) → bound_in bs x ≡ Some (b.Static j) → AmongProcedures x ds
    → FoundParts own ts (parts_of_definitions d n (definitions_named bs p s ds)) → LaterTarget ts n j
later_target own ts bs p s d n j x t.no_definitions e h f = elim h [ ]
later_target own ts bs p s d n j x (t.define (t.routine l y fs c) ds) e (inl same) f =
    record { label = n + 1; later = omega arith; leads = own_target ts n j bs y (ap (bound_in bs) same ∙ e) f.0.0 }
later_target own ts bs p s d n j x (t.define (t.routine l y fs c) ds) e (inr h) f =
    let one = definition_named bs p s (t.routine l y fs c) in
    later_on ts n (n + labels_of_definition one) j (omega arith)
    (later_target own ts bs p (spot.after_one_defined (t.routine l y fs c) s) d (n + labels_of_definition one) j x ds e h (found_back own ts (parts_of_definition d n one) _ f))
later_target own ts bs p s d n j x (t.define (t.function l y fs c) ds) e (inl same) f =
    record { label = n + 1; later = omega arith; leads = own_target ts n j bs y (ap (bound_in bs) same ∙ e) f.0.0 }
later_target own ts bs p s d n j x (t.define (t.function l y fs c) ds) e (inr h) f =
    let one = definition_named bs p s (t.function l y fs c) in
    later_on ts n (n + labels_of_definition one) j (omega arith)
    (later_target own ts bs p (spot.after_one_defined (t.function l y fs c) s) d (n + labels_of_definition one) j x ds e h (found_back own ts (parts_of_definition d n one) _ f))
later_target own ts bs p s d n j x (t.define (t.variables l xs is) ds) e h f =
    let one = definition_named bs p s (t.variables l xs is) in
    later_on ts n (n + labels_of_definition one) j (omega arith)
    (later_target own ts bs (place_after bs p is) (spot.after_one_defined (t.variables l xs is) s) (after_definition d one) (n + labels_of_definition one) j x ds e h (found_back own ts (parts_of_definition d n one) _ f))

-- one procedure, by what its name means behind it and behind all
one_word : (all : List ℕ) (own : Placed) (ts : List Target) (bs bl : List Binding) (i n m : ℕ) (x : List ℕ) (ds : Definitions) (q : Bool)
    → Looked (bound_in bl x) (bound_in (cond q bs (bind x (b.Static n) bs)) x) (AmongProcedures x ds) (λ j. b.Static j) → AllFound ts (target_of_word (m + 1) (meant (bound_in bl x)))
    → ((j : ℕ) → bound_in bl x ≡ Some (b.Static j) → AmongProcedures x ds → LaterTarget ts (m + labels_of_procedure (meant (bound_in bl x))) j) → BaseOf all i (word_base own m (meant (bound_in bl x)))
    → q ≡ false → BaseOf all i (own.places.label ((goal_of ts n).label))
one_word all own ts bs bl i n m x ds q (inl same) f later base e = grind (arith, itself, own_target)
one_word all own ts bs bl i n m x ds q (inr h) f later base e =
    let l = later h.1 h.2 h.0 in
    let two : labels_of_procedure (meant (bound_in bl x)) ≡ 2 = ap (λ y. labels_of_procedure (meant y)) h.2 in
    let same : m + 1 ≡ l.label = ap (λ (z : Goal). z.label) (sym (own_target ts m h.1 bl x h.2 f) ∙ l.leads) in
    absurd (omega (arith, two, l.later, same))

pub procedures_based : (all : List ℕ) (own : Placed) (ts : List Target) (bs bl : List Binding) (p : Enclosing) (s : Spot) (i n m d : ℕ) (ds : Definitions) → procedures_in_scope n ds bs ≡ bl → WordsBased all own bl p s i m ds
    → FoundParts own ts (parts_of_definitions d m (definitions_named bl p s ds)) → AreProcedures all own ts bs i n ds
procedures_based all own ts bs bl p s i n m d t.no_definitions e w f = tt
procedures_based all own ts bs bl p s i n m d (t.define (t.routine l x fs c) ds) e w f =
    let one = definition_named bl p s (t.routine l x fs c) in
    let s1 : Spot = spot.after_one_defined (t.routine l x fs c) s in
    let others = found_back own ts (parts_of_definition d m one) _ f in
    let bs1 : List Binding = procedure_in_scope n x bs in
    let looked = subst (λ z. Looked (bound_in z x) (bound_in bs1 x) (AmongProcedures x ds) (λ j. b.Static j)) e (look_procedure (n + 1) ds bs1 x) in (
      one_word all own ts bs bl i n m x ds (is_global (bound_in bs x)) looked f.0.0
          (λ j is among. later_on ts (m + labels_of_procedure (meant (bound_in bl x))) _ j (omega arith) (later_target own ts bl p s1 d (m + labels_of_definition one) j x ds is among others)) w.0,
      procedures_based all own ts bs1 bl p s1 (i + (1 + objects_of_command c)) (n + 1) (m + labels_of_definition one) d ds e w.1 others,
    )
procedures_based all own ts bs bl p s i n m d (t.define (t.function l x fs c) ds) e w f =
    let one = definition_named bl p s (t.function l x fs c) in
    let s1 : Spot = spot.after_one_defined (t.function l x fs c) s in
    let others = found_back own ts (parts_of_definition d m one) _ f in
    let bs1 : List Binding = procedure_in_scope n x bs in
    let looked = subst (λ z. Looked (bound_in z x) (bound_in bs1 x) (AmongProcedures x ds) (λ j. b.Static j)) e (look_procedure (n + 1) ds bs1 x) in (
      one_word all own ts bs bl i n m x ds (is_global (bound_in bs x)) looked f.0.0
          (λ j is among. later_on ts (m + labels_of_procedure (meant (bound_in bl x))) _ j (omega arith) (later_target own ts bl p s1 d (m + labels_of_definition one) j x ds is among others)) w.0,
      procedures_based all own ts bs1 bl p s1 (i + (1 + objects c)) (n + 1) (m + labels_of_definition one) d ds e w.1 others,
    )
procedures_based all own ts bs bl p s i n m d (t.define (t.variables l xs is) ds) e w f =
    let one = definition_named bl p s (t.variables l xs is) in
    procedures_based all own ts bs bl (place_after bl p is) (spot.after_one_defined (t.variables l xs is) s) (i + objects_of_starts is) n (m + labels_of_definition one) (after_definition d one) ds e w
    (found_back own ts (parts_of_definition d m one) _ f)

-- ---- Items of STATIC are laid where the scheme puts them: each has a word of its own among the data of its section.

-- the word of an item,
item_word : (bs : List Binding) (i : ℕ) (e : Expression) (ns : List Named) → Agree ns bs → unwrap_or (constant_in (with_names ns i) e) 0 ≡ worth (constant_word bs e)
item_word bs i e ns u = ap (λ y. unwrap_or y 0) (constants_agree ns bs i u.0 e) ∙ worth_is (constant_word bs e)

-- which is held
item_held : (setting : Setting) (section : ℕ) (own : Placed) (bs : List Binding) (n i : ℕ) (e : Expression) (ns : List Named) → Agree ns bs → HasWords bs → Regular e → HasWord (constant_word bs e)
    → DataIn own (DataLabel n ∷ DataNumber (signed (worth (constant_word bs e))) ∷ []) → slice_get setting.program.sections section ≡ Some own
    → InData setting.program (own.places.label n) (unwrap_or (constant_in (with_names ns i) e) 0 ∷ [])
item_held setting section own bs n i e ns u h r w f is =
    let v : ℕ = worth (constant_word bs e) in
    let code = DataNumber (signed v) ∷ f.rest in
    let small : v < 2 ^ 32 = subst (λ y. worth y < 2 ^ 32) (sym w.1) (constant_small bs h e r w.0 w.1) in
    let same : unwrap_or (constant_in (with_names ns i) e) 0 ≡ v = item_word bs i e ns u in
    let found = statement_data setting.program section own f.depth (DataLabel n) code (record { place = own.places.label n; words = item_words own.places code }) is f.stands refl in
    subst (λ y. InData setting.program (own.places.label n) y) (items_are own.places (v ∷ []) f.rest (small, tt) f.ends ∙ ap (λ x. x ∷ []) (sym same)) found

-- items of one STATIC, whose constants see what is in scope before them
pub statics_lie : (h : Home) (s : Spot) (i k n : ℕ) (is : Items) → HasWords h.bindings → RegularItems is → StaticsSound h.bindings is → (f : FoundParts h.own h.targets (parts_of_items n (statics_named h.bindings s is)))
    → Bases h i (count is) (parts_of_items n (statics_named h.bindings s is)) f (λ ns. static_words (with_names ns k) is) (λ a. 0) (λ g. AreBases g.lasting i (static_places h.own h.targets s.number is))
statics_lie h s i k n t.no_items w r a f = no_bases h i (λ g. Unit {0}) (λ g y. tt)
statics_lie h s i k n (t.item l x e is) w r a f =
    let p : ℕ = h.own.places.label n in
    let code = DataNumber (signed (worth (constant_word h.bindings e))) ∷ f.0.2.rest in
    let later : Spot = spot.numbered 1 (spot.after_constant e (spot.past 1 s)) in
    let same : later.number ≡ s.number + 1 = omega arith in
    let one : i + 1 ≡ suc i = omega arith in
    let leads : goal_of h.targets s.number ≡ goal n 0 = f.0.0.0 in
    let first = new_base h i p (static_item n (record { bound = b.Static s.number; word = worth (constant_word h.bindings e) }) ∷ []) (f.0, tt) (λ ns. unwrap_or (constant_in (with_names ns k) e) 0 ∷ []) {C = λ a. 0} (λ g. BaseOf g.lasting i p) refl
    (λ ns u q.
    let v = words_paid h.own q n (worth (constant_word h.bindings e) ∷ []) (unwrap_or (constant_in (with_names ns k) e) 0 ∷ []) f.0.2.rest (ap (λ x. x ∷ []) (item_word h.bindings k e ns u)) in omega (arith, v))
    (statement_below h.section h.own f.0.2.depth (DataLabel n) code (record { place = p; words = item_words h.own.places code }) f.0.2.stands refl) (λ g y z. z)
    (λ g y z ns u v. (p, z, item_held g h.section h.own h.bindings n k e ns u w r.0 a.0 f.0.2 y.own)) in
    let others = statics_lie h later (i + 1) k (n + 1) is w r.1 a.1 f.1 in
    bases_within h (λ q. omega arith) (bases_so h _ (λ g y v. (
      subst (λ (z : Goal). BaseOf g.lasting i (h.own.places.label z.label)) (sym leads) v.0,
      subst (λ z. AreBases g.lasting z (static_places h.own h.targets (s.number + 1) is)) one (subst (λ m. AreBases g.lasting (i + 1) (static_places h.own h.targets m is)) same v.1),
    )) (both_bases h i 1 (count is) (static_item n (record { bound = b.Static s.number; word = worth (constant_word h.bindings e) }) ∷ []) f _ _ first others))

-- ---- The definitions of a LET are laid where the scheme puts them.

-- the words of a VEC
within_most : (most : ℕ) (y : Option ℕ) (k : ℕ) → y ≡ Some k → k ≤ most → words_of_vector (within most y) ≡ k + 1
within_most most None k e low = absurd (let h : None ≡ Some k = e in cc)
within_most most (Some v) k e low = grind (arith, le-ltb)

vector_words : (bs : List Binding) (e : Expression) (k : ℕ) → constant_word bs e ≡ Some k → k ≤ VEC_NUMBER → words_of_start bs e ≡ k + 1
vector_words bs e k h low = within_most VEC_NUMBER (constant_word bs e) k h low

-- the values that variables begin with
pub laid_starts : (pay : ℕ) (valofs : ValofsLie pay) (sc : Scene) (p : Enclosing) (s : Spot) (i : ℕ) (is : Starts) (d n : ℕ) (c rest : List Stmt) → Around sc p d → SoundStarted sc.bindings p s is → RegularStarts is → turns_started true is ≤ pay
    → (f : FoundParts sc.own sc.targets (parts_of_starts d n (starts_named sc.bindings p s is))) → c ≡ starts_code sc.targets d n (starts_named sc.bindings p s is) ++ rest → IsNumbered sc.own d c
    → Lies (home sc pay) i (objects_of_starts is) (after_starts d (starts_named sc.bindings p s is)) c rest (parts_of_starts d n (starts_named sc.bindings p s is)) f (λ ns. of_starts (with_names ns i) is)
    (InNames sc.bindings i (λ g env. AreStarts g sc d env is c rest (after_starts d (starts_named sc.bindings p s is)) (slots_of sc.bindings d is)))
    × Around sc (place_after sc.bindings p is) (after_starts d (starts_named sc.bindings p s is))
laid_starts pay valofs sc p s i t.no_starts d n c rest a h r m f k st = (lie (written sc.own d c rest k st) (no_bases (home sc pay) i _ (λ g y ns u. (k, refl, refl))) (λ q. let v = ap (data_at sc.own q) k in omega (arith, v)), a)
laid_starts pay valofs sc p s i (t.value e is) d n c rest a h r m f k st =
    let te = term_named sc.bindings p s e in
    let ve = value_code sc.targets d n te in
    let others = starts_code sc.targets (d + 1) (n + labels te) (starts_named sc.bindings (deeper 1 p) (spot.following e s) is) in
    let c1 = others ++ rest in
    let le = laid_code pay valofs sc p s i pushes e d n c c1 a h.0 r.0 (omega arith) (found_front sc.own sc.targets (parts d n te) _ f) (joined_two ve others rest c k) st in
    let ls = laid_starts pay valofs sc (deeper 1 p) (spot.following e s) (i + objects e) is (d + 1) (n + labels te) c1 rest (around_deeper sc p d 1 (d + 1) refl le.on.shallow a) h.1 r.1 (omega arith)
    (found_back sc.own sc.targets (parts d n te) _ f) refl le.on in (
      lie ls.0.on (bases_so (home sc pay) _ (λ g y v ns u. (c1, slots_of sc.bindings (d + 1) is, v.0 ns u, v.1 ns u, refl)) (both_bases (home sc pay) i (objects e) (objects_of_starts is) (parts d n te) f _ _ le.objects_are ls.0.objects_are))
          (λ q. let u = le.paid q in let v = ls.0.paid q in omega (arith, u, v)),
      ls.1,
    )
laid_starts pay valofs sc p s i (t.vector l e is) d n c rest a h r m f k st =
    let size : ℕ = worth (constant_word sc.bindings e) in
    let is_size : constant_word sc.bindings e ≡ Some size = h.0.1 ∙ ap (λ y. Some (worth y)) (sym h.0.1) in
    let low : size ≤ VEC_NUMBER = subst (λ y. worth y ≤ VEC_NUMBER) (sym h.0.1) h.0.2 in
    let words = vector_words sc.bindings e size is_size low in
    let p1 : Enclosing = deeper (words_of_start sc.bindings e + 1) p in
    let s1 : Spot = spot.after_constant e s in
    let others = starts_code sc.targets (d + size + 2) n (starts_named sc.bindings p1 s1 is) in
    let c0 = others ++ rest in
    let k1 : c ≡ Stack (d + size + 1) ∷ Address (Local d) ∷ c0 = k in
    let on1 = passed sc.own d (d + size + 1) (Stack (d + size + 1)) (Address (Local d) ∷ c0) (written sc.own d c (Stack (d + size + 1) ∷ Address (Local d) ∷ c0) k1 st) refl in
    let on2 = passed sc.own (d + size + 1) (d + size + 2) (Address (Local d)) c0 on1 (omega arith) in
    let ls = laid_starts pay valofs sc p1 s1 i is (d + size + 2) n c0 rest (around_deeper sc p d (words_of_start sc.bindings e + 1) (d + size + 2) (omega (arith, words)) on2.shallow a) h.1 r.1 (omega arith) f refl on2 in (
      lie ls.0.on (bases_so (home sc pay) _ (λ g y v ns u. (size, c0, slots_of sc.bindings (d + size + 2) is, constants_agree ns sc.bindings i u.0 e ∙ is_size, k1, v ns u, refl)) ls.0.objects_are) (λ q. let u = ls.0.paid q in let v = ap (data_at sc.own q) k1 in omega (arith, u, v)),
      ls.1,
    )

-- the definitions of a LET: values, and procedures that stand elsewhere in the section
pub laid_defined : (pay : ℕ) (valofs : ValofsLie pay) (blocks : BlocksLie pay) (sc : Scene) (p : Enclosing) (s : Spot) (i : ℕ) (ds : Definitions) (d n : ℕ) (c rest : List Stmt) → Around sc p d → SoundDefined sc.bindings p s ds → RegularDefinitions ds → turns_defined true ds ≤ pay
    → (f : FoundParts sc.own sc.targets (parts_of_definitions d n (definitions_named sc.bindings p s ds))) → c ≡ definitions_code sc.targets d n (definitions_named sc.bindings p s ds) ++ rest → IsNumbered sc.own d c
    → Lies (home sc pay) i (objects_of_definitions ds) (after_definitions d (definitions_named sc.bindings p s ds)) c rest (parts_of_definitions d n (definitions_named sc.bindings p s ds)) f (λ ns. of_definitions (with_names ns i) ds)
    (λ g. WordsBased g.lasting sc.own sc.bindings p s i n ds
    × InNames sc.bindings i (λ g env. AreDefined g sc d env ds c rest (after_definitions d (definitions_named sc.bindings p s ds)) (spots_in sc.bindings p s d ds)) g)
laid_defined pay valofs blocks sc p s i t.no_definitions d n c rest a h r m f k st =
    lie (written sc.own d c rest k st) (no_bases (home sc pay) i _ (λ g y. (tt, λ ns u. (k, refl, refl)))) (λ q. let v = ap (data_at sc.own q) k in omega (arith, v))
laid_defined pay valofs blocks sc p s i (t.define (t.routine l x fs a0) ds) d n c rest a h r m f k st =
    let one = definition_named sc.bindings p s (t.routine l x fs a0) in
    let s1 : Spot = spot.after_one_defined (t.routine l x fs a0) s in
    let own_found = found_front sc.own sc.targets (parts_of_definition d n one) _ f in
    let code = own_found.0.1 in
    let p2 : Enclosing = place.labelled (s.number + 1) (place.called true s.number (length fs)) in
    let s2 : Spot = spot.onward (1 + length fs) (2 + length (labels_of a0)) s in
    let inner = with_formals s.number 2 fs sc.bindings in
    let outer : Scene = scene_of sc.section sc.own sc.targets inner s.number in
    let within : Scene = record outer { bindings = labels_in_scope s.number (s.number + 2) (labels_of a0) inner } in
    let first = n + labels_of_procedure (meant (bound_in sc.bindings x)) in
    let depth = length fs + 2 in
    let named = command_named within.bindings p2 s2 a0 in
    let codes = command_code sc.targets outermost depth first named in
    let tail = EndProcedure ∷ code.rest in
    let body = codes ++ (Return ∷ tail) in
    let pl = body_lies pay sc.section sc.own sc.targets sc.bindings s.number fs (i + 1) (objects_of_command a0) (command a0) n (parts_in depth first named) {f = own_found.1} {C = λ q. data_within sc.own q (procedure_code sc.targets (procedure n one)) code.rest} code.depth (first_bytes x) codes Return _ code.rest refl code.stands (λ st3.
    let doing : Doing within p2 depth = record {
      around = record { same = refl; at = omega (arith, st3.shallow); words = words_labels s.number (s.number + 2) (labels_of a0) inner (words_formals s.number 2 fs sc.bindings a.words) };
      loop = λ e. absurd (false≢true e);
      switch = λ e. absurd (false≢true e);
      valof = λ e. absurd (false≢true e);
    } in
    let done = laid_act pay valofs blocks within p2 s2 (i + 1) a0 depth first body (Return ∷ tail) doing h.0.2 r.0 (omega arith) own_found.1 refl st3 in
    let lies = alone_lies pay outer (i + 1) a0 depth first named body (Return ∷ tail) (s.number + 2) s.number refl (let light = in_light a0 in omega (arith, light, m)) done in
    bases_within (home sc pay) (λ q.
    let u = lies.paid q in let v = within_at sc.own q (codes ++ Return ∷ EndProcedure ∷ []) code.rest in let w = ap (data_at sc.own q) (append_assoc codes (Return ∷ EndProcedure ∷ []) code.rest) in omega (arith, u, v, w))
    (bases_so (home sc pay) _ (λ g z v ns u o above.
    let e = agree_formals s.number 2 o 0 fs ns sc.bindings (i + 1) above u in
    let env = bind_formals o 0 (letters fs) (with_names ns (i + 1)) in
    (s.number + 2, tail, subst (λ j. IsAlone g outer depth (with_names env.names j) a0 (s.number + 2) body (Return ∷ tail)) (sym e.1) (v env.names e.0)))
    (bases_of (home sc pay) _ (λ ns. of_command (in_scope a0 (bind_each (letters fs) foreign (with_names ns (i + 1)))) a0) (λ ns. ap (λ y. of_command (in_scope a0 y) a0) (sym (names_bound (letters fs) foreign ns (i + 1))))
    (formals_around pay sc.section sc.own sc.targets sc.bindings s.number fs _ lies.objects_are)))) in
    let own_bases = procedure_bases pay sc.section sc.own sc.targets sc.bindings s.number x fs i (objects_of_command a0) (command a0) n _ _ own_found pl h.0.0 refl own_found.0.2 (λ q. omega arith) in
    let others = laid_defined pay valofs blocks sc p s1 (i + (1 + objects_of_command a0)) ds d (n + labels_of_definition one) c rest a h.1 r.1 (omega arith) (found_back sc.own sc.targets (parts_of_definition d n one) _ f) k st in
    lie others.on (bases_so (home sc pay) _ (λ g y v. ((v.0, v.1.0), λ ns u. v.1.1 ns u)) (both_bases (home sc pay) i (1 + objects_of_command a0) (objects_of_definitions ds) (parts_of_definition d n one) f _ _ own_bases others.objects_are))
    (λ q. let u = others.paid q in omega (arith, u))
laid_defined pay valofs blocks sc p s i (t.define (t.function l x fs e) ds) d n c rest a h r m f k st =
    let one = definition_named sc.bindings p s (t.function l x fs e) in
    let s1 : Spot = spot.after_one_defined (t.function l x fs e) s in
    let own_found = found_front sc.own sc.targets (parts_of_definition d n one) _ f in
    let code = own_found.0.1 in
    let p2 : Enclosing = place.called false s.number (length fs) in
    let s2 : Spot = spot.onward (1 + length fs) 1 s in
    let inner = with_formals s.number 2 fs sc.bindings in
    let within : Scene = scene_of sc.section sc.own sc.targets inner s.number in
    let first = n + labels_of_procedure (meant (bound_in sc.bindings x)) in
    let depth = length fs + 2 in
    let named = term_named inner p2 s2 e in
    let codes = value_code sc.targets depth first named in
    let tail = EndProcedure ∷ code.rest in
    let body = codes ++ (ReturnItem ∷ tail) in
    let pl = body_lies pay sc.section sc.own sc.targets sc.bindings s.number fs (i + 1) (objects e) (expression e) n (parts depth first named) {f = own_found.1} {C = λ q. data_within sc.own q (procedure_code sc.targets (procedure n one)) code.rest} code.depth (first_bytes x) codes ReturnItem _ code.rest refl code.stands (λ st3.
    let around : Around within p2 depth = record { same = refl; at = omega (arith, st3.shallow); words = words_formals s.number 2 fs sc.bindings a.words } in
    let lies = laid_code pay valofs within p2 s2 (i + 1) pushes e depth first body (ReturnItem ∷ tail) around h.0.2 r.0 (omega arith) own_found.1 refl st3 in
    bases_within (home sc pay) (λ q.
    let u = lies.paid q in let v = within_at sc.own q (codes ++ ReturnItem ∷ EndProcedure ∷ []) code.rest in let w = ap (data_at sc.own q) (append_assoc codes (ReturnItem ∷ EndProcedure ∷ []) code.rest) in omega (arith, u, v, w))
    (bases_so (home sc pay) _ (λ g z v ns u o above.
    let q = agree_formals s.number 2 o 0 fs ns sc.bindings (i + 1) above u in
    let env = bind_formals o 0 (letters fs) (with_names ns (i + 1)) in
    (tail, subst (λ j. IsCode g within depth (with_names env.names j) pushes e body (ReturnItem ∷ tail)) (sym q.1) (v env.names q.0), (let light = of_light e in omega (arith, z.pays, light, m))))
    (bases_of (home sc pay) _ (λ ns. of_expression (bind_each (letters fs) foreign (with_names ns (i + 1))) e) (λ ns. ap (λ y. of_expression y e) (sym (names_bound (letters fs) foreign ns (i + 1))))
    (formals_around pay sc.section sc.own sc.targets sc.bindings s.number fs _ lies.objects_are)))) in
    let own_bases = procedure_bases pay sc.section sc.own sc.targets sc.bindings s.number x fs i (objects e) (expression e) n _ _ own_found pl h.0.0 refl own_found.0.2 (λ q. omega arith) in
    let others = laid_defined pay valofs blocks sc p s1 (i + (1 + objects e)) ds d (n + labels_of_definition one) c rest a h.1 r.1 (omega arith) (found_back sc.own sc.targets (parts_of_definition d n one) _ f) k st in
    lie others.on (bases_so (home sc pay) _ (λ g y v. ((v.0, v.1.0), λ ns u. v.1.1 ns u)) (both_bases (home sc pay) i (1 + objects e) (objects_of_definitions ds) (parts_of_definition d n one) f _ _ own_bases others.objects_are))
    (λ q. let u = others.paid q in omega (arith, u))
laid_defined pay valofs blocks sc p s i (t.define (t.variables l xs is) ds) d n c rest a h r m f k st =
    let one = definition_named sc.bindings p s (t.variables l xs is) in
    let named = starts_named sc.bindings p (spot.past (length xs) s) is in
    let p1 : Enclosing = place_after sc.bindings p is in
    let s1 : Spot = spot.after_one_defined (t.variables l xs is) s in
    let d0 = after_starts d named in
    let n0 = n + labels_of_definition one in
    let code = starts_code sc.targets d n named in
    let more = definitions_code sc.targets d0 n0 (definitions_named sc.bindings p1 s1 ds) in
    let c0 = more ++ rest in
    let ls = laid_starts pay valofs sc p (spot.past (length xs) s) i is d n c c0 a h.0 r.0.1 (omega arith) (found_front sc.own sc.targets (parts_of_definition d n one) _ f) (joined_two code more rest c k) st in
    let others = laid_defined pay valofs blocks sc p1 s1 (i + objects_of_starts is) ds d0 n0 c0 rest ls.1 h.1 r.1 (omega arith) (found_back sc.own sc.targets (parts_of_definition d n one) _ f) refl ls.0.on in
    lie others.on
    (bases_so (home sc pay) _ (λ g y v. (v.1.0, λ ns u. (c0, d0, slots_of sc.bindings d is, spots_in sc.bindings p1 s1 d0 ds, v.0 ns u, v.1.1 ns u, refl)))
    (both_bases (home sc pay) i (objects_of_starts is) (objects_of_definitions ds) (parts_of_definition d n one) f _ _ ls.0.objects_are others.objects_are))
    (λ q. let u = ls.0.paid q in let w = others.paid q in omega (arith, u, w))

-- what is laid behind declarations, in their scope
abbrev pub Later : Type 1
Later = Setting → Scene → ℕ → Environment → List Stmt → Type 0

-- it is laid so, with names that agree, from this lasting object on
abbrev pub LaidLater : Later → Scene → List Binding → ℕ → ℕ → List Stmt → Setting → Type 0
LaidLater Then sc bs d i c setting = (ns : List Named) → Agree ns bs → Then setting (record sc { bindings = bs }) d (with_names ns i) c

-- ---- MANIFEST, STATIC and GLOBAL

-- any procedure of the same scope
abbrev elsewhere : Scene → ℕ → Surroundings → Exits → Scene
elsewhere sc k a e = record sc { procedure = k; around = a; exits = e }

-- the names behind a declaration
record NamesAfter (setting : Setting) (sc : Scene) (ns : List Named) (i : ℕ) (x : Declaration) (bs : List Binding) : Type 0 where
  pub agree : Agree (declared x (with_names ns i)).names bs
  pub renames : Renames setting sc (with_names ns i) bs (declared x (with_names ns i))

constants_then : (pay : ℕ) (sc : Scene) (l : ℕ) (o : Sort) (is : Items) (i d many : ℕ) (c : List Stmt) (bs : List Binding) (ps : List Part) {qs : List Part} (ff : FoundParts sc.own sc.targets (ps ++ qs)) {C D : ℕ → ℕ} (L : List Named → List Lasting) (Then : Later) (P : Setting → Type 0)
    → ((setting : Setting) → 0 < i → P setting → (k : ℕ) (a : Surroundings) (e : Exits) (ns : List Named) → Agree ns sc.bindings → NamesAfter setting (elsewhere sc k a e) ns i (t.constants l o is) bs)
    → Bases (home sc pay) i (objects_of_declaration (t.constants l o is)) ps (found_front sc.own sc.targets ps qs ff) (λ ns. of_items (with_names ns i) o is) C P
    → Bases (record (home sc pay) { bindings = bs }) (i + objects_of_declaration (t.constants l o is)) many qs (found_back sc.own sc.targets ps qs ff) L D (LaidLater Then sc bs d (i + objects_of_declaration (t.constants l o is)) c)
    → Bases (home sc pay) i (objects_of_declaration (t.constants l o is) + many) (ps ++ qs) ff (λ ns. of_items (with_names ns i) o is ++ L (declared (t.constants l o is) (with_names ns i)).names)
    (λ a. C a + D a) (InNames sc.bindings i (λ setting env. IsOneDeclared setting sc d env (t.constants l o is) (Then setting) c))
constants_then pay sc l o is i d many c bs ps ff L Then P names own others =
    let h : Home = home sc pay in
    let x : Declaration = t.constants l o is in
    let n : ℕ = objects_of_declaration x in
    let there : Exits = record { loop = false; switch = false } in
    let a = bases_some h own in
    let both = then_bases h bs i n many ps ff (λ setting. (0 < i) × P setting) (LaidLater Then sc bs d (i + n) c) (λ ns. (declared x (with_names ns i)).names) a
    (λ setting y ns u v. let w = a.laid setting y in (
      (names setting w.0 w.1 0 outermost there ns u).agree,
      λ k bases frame grown. record { each = ((names setting w.0 w.1 k outermost there ns u).renames.1 bases frame grown (record { each = (v k bases frame grown).each })).each },
    )) others in
    bases_so h _ (λ setting y v ns u.
    let w = names setting v.0.0 v.0.1 sc.procedure sc.around sc.exits ns u in
    (bs, w.renames, subst (λ j. Then setting (record sc { bindings = bs }) d (with_names (declared x (with_names ns i)).names j) c) (sym (declared-next x (with_names ns i))) (v.1 (declared x (with_names ns i)).names w.agree))) both

pub constants_bases : (pay : ℕ) (sc : Scene) (p : Enclosing) (s : Spot) (l : ℕ) (o : Sort) (is : Items) (i d n many : ℕ) (c : List Stmt) {qs : List Part} {D : ℕ → ℕ} (L : List Named → List Lasting) (Then : Later) → HasWords sc.bindings
    → SoundOneDeclared sc.bindings p s (t.constants l o is) → RegularItems is → (ff : FoundParts sc.own sc.targets (parts_of_declaration d n (declaration_named sc.bindings p s (t.constants l o is)) ++ qs))
    → Bases (record (home sc pay) { bindings = scope_after_one sc.bindings p s (t.constants l o is) }) (i + objects_of_declaration (t.constants l o is)) many qs (found_back sc.own sc.targets (parts_of_declaration d n (declaration_named sc.bindings p s (t.constants l o is))) qs ff) L D
    (LaidLater Then sc (scope_after_one sc.bindings p s (t.constants l o is)) d (i + objects_of_declaration (t.constants l o is)) c)
    → Bases (home sc pay) i (objects_of_declaration (t.constants l o is) + many) (parts_of_declaration d n (declaration_named sc.bindings p s (t.constants l o is)) ++ qs) ff (λ ns. of_declaration (with_names ns i) (t.constants l o is) ++ L (declared (t.constants l o is) (with_names ns i)).names)
    D (InNames sc.bindings i (λ g env. IsOneDeclared g sc d env (t.constants l o is) (Then g) c))
constants_bases pay sc p s l sort.Manifest is i d n many c L Then w h r ff b =
    bases_within (home sc pay) (λ q. omega arith) (constants_then pay sc l sort.Manifest is i d many c (manifests_in_scope sc.bindings is) [] ff L Then (λ g. Unit {0})
    (λ g some q k a e ns u. let z = renames_manifests is g (elsewhere sc k a e) ns i w u r h in record { agree = z.agree; renames = (z.keeps, z.means tt) }) (no_bases (home sc pay) i (λ g. Unit {0}) (λ g y. tt)) b)
constants_bases pay sc p s l sort.Static is i d n many c L Then w h r ff b =
    bases_within (home sc pay) (λ q. omega arith) (constants_then pay sc l sort.Static is i d many c (statics_in_scope (s.number + 1) is sc.bindings) (parts_of_items n (statics_named sc.bindings (spot.numbered 1 s) is)) ff L Then (λ g. AreBases g.lasting i (static_places sc.own sc.targets (s.number + 1) is))
    (λ g some q k a e ns u. let z = renames_statics is g (elsewhere sc k a e) ns i (s.number + 1) some u in record { agree = z.agree; renames = (z.keeps, z.means q) }) (statics_lie (home sc pay) (spot.numbered 1 s) i i n is w r h (found_front sc.own sc.targets (parts_of_items n (statics_named sc.bindings (spot.numbered 1 s) is)) _ ff)) b)
constants_bases pay sc p s l sort.Global is i d n many c L Then w h r ff b =
    bases_within (home sc pay) (λ q. omega arith) (constants_then pay sc l sort.Global is i d many c (globals_in_scope sc.bindings is sc.bindings) [] ff L Then (λ g. Unit {0})
    (λ g some q k a e ns u. let z = renames_globals is g (elsewhere sc k a e) ns sc.bindings ns i u.0 u h in record { agree = z.agree; renames = (z.keeps, z.means g.vector) }) (no_bases (home sc pay) i (λ g. Unit {0}) (λ g y. tt)) b)

-- ---- LET

variables_here : (bs : List Binding) (p : Enclosing) (s : Spot) (ds : Definitions) → has_variables (definitions_named bs p s ds) ≡ defines_variables ds
variables_here bs p s (t.define (t.routine l x fs c) ds) = variables_here bs p (spot.after_one_defined (t.routine l x fs c) s) ds
variables_here bs p s (t.define (t.function l x fs e) ds) = variables_here bs p (spot.after_one_defined (t.function l x fs e) s) ds
variables_here bs p s _ = refl

-- STORE, where there are variables
stored : (q : Bool) (c : List Stmt) → cond q (Store ∷ []) [] ++ c ≡ cond q (Store ∷ c) c
stored true c = refl
stored false c = refl

behind_store : (sc : Scene) (q : Bool) (d : ℕ) (c : List Stmt) → IsNumbered sc.own d (cond q (Store ∷ []) [] ++ c) → IsNumbered sc.own d c
behind_store sc true d c h = passed sc.own d d Store c h refl
behind_store sc false d c h = h

-- where the definitions of a LET are laid: its scope, the place and the spot of its definitions
abbrev pub inner : Scene → Spot → Definitions → Scene
inner sc s ds = record sc { bindings = procedures_in_scope (s.number + 1) ds sc.bindings }

abbrev pub first_defined : Spot → Definitions → Spot
first_defined s ds = spot.numbered (1 + procedures_in ds) s

abbrev slots_here : Scene → Enclosing → Spot → ℕ → Definitions → List Slot
slots_here sc p s d ds = spots_in (inner sc s ds).bindings p (first_defined s ds) d ds

abbrev pub depth_here : Scene → Enclosing → Spot → ℕ → Definitions → ℕ
depth_here sc p s d ds = after_definitions d (definitions_named (inner sc s ds).bindings p (first_defined s ds) ds)

abbrev behind_let : Scene → Enclosing → Spot → ℕ → Definitions → List Stmt → List Stmt
behind_let sc p s d ds c = cond (has_variables (definitions_named (inner sc s ds).bindings p (first_defined s ds) ds)) (Store ∷ []) [] ++ c

-- the definitions, and the bases of procedures
abbrev DefinedHere : Scene → Enclosing → Spot → ℕ → ℕ → ℕ → Definitions → List Stmt → List Stmt → Setting → Type 0
DefinedHere sc p s i n d ds c c0 setting =
    WordsBased setting.lasting sc.own (inner sc s ds).bindings p (first_defined s ds) i n ds
    × InNames (inner sc s ds).bindings i (λ setting env. AreDefined setting (inner sc s ds) d env ds c c0 (depth_here sc p s d ds) (slots_here sc p s d ds)) setting

definitions_lie : (pay : ℕ) (valofs : ValofsLie pay) (blocks : BlocksLie pay) (sc : Scene) (p : Enclosing) (s : Spot) (i l : ℕ) (ds : Definitions) (d n : ℕ) (c c1 : List Stmt) → Around sc p d → SoundOneDeclared sc.bindings p s (t.definitions l ds)
    → RegularDefinitions ds → turns_defined true ds ≤ pay → (f : FoundParts sc.own sc.targets (parts_of_declaration d n (declaration_named sc.bindings p s (t.definitions l ds))))
    → c ≡ declaration_code sc.targets d n (declaration_named sc.bindings p s (t.definitions l ds)) ++ c1 → IsNumbered sc.own d c
    → Lies (home (inner sc s ds) pay) i (objects_of_definitions ds) (depth_here sc p s d ds) c (behind_let sc p s d ds c1) (parts_of_definitions d n (definitions_named (inner sc s ds).bindings p (first_defined s ds) ds)) f (λ ns. of_definitions (with_names ns i) ds)
    (DefinedHere sc p s i n d ds c (behind_let sc p s d ds c1))
definitions_lie pay valofs blocks sc p s i l ds d n c c1 a h r m f k st =
    let bl = (inner sc s ds).bindings in
    let named = definitions_named bl p (first_defined s ds) ds in
    let around : Around (inner sc s ds) p d = record { same = a.same; at = a.at; words = words_procedures (s.number + 1) ds sc.bindings a.words } in
    laid_defined pay valofs blocks (inner sc s ds) p (first_defined s ds) i ds d n c (behind_let sc p s d ds c1) around h r m f
    (joined_two (definitions_code sc.targets d n named) (cond (has_variables named) (Store ∷ []) []) c1 c k) st

-- what stands around code behind a LET
exits_same : (p r : Enclosing) → (r.in_loop ≡ p.in_loop) × (r.in_switch ≡ p.in_switch) × (r.in_valof ≡ p.in_valof) → (sc : Scene) (bs : List Binding) (d e : ℕ) → Doing sc p d → r.procedure ≡ p.procedure → r.depth ≡ e → HasWords bs
    → Doing (record sc { bindings = bs }) r e
exits_same p r x sc bs d e a same at w = grind arith

-- the names of the procedures, in some procedure of the scope
procedures_mean : (sc : Scene) (p : Enclosing) (s : Spot) (i n d : ℕ) (ds : Definitions) (c c0 : List Stmt) (setting : Setting) (k : ℕ) (a : Surroundings) (e : Exits) (ns : List Named) → 0 < i → DefinedHere sc p s i n d ds c c0 setting
    → FoundParts sc.own sc.targets (parts_of_definitions d n (definitions_named (inner sc s ds).bindings p (first_defined s ds) ds)) → Agree ns sc.bindings
    → Agree (bind_procedures ds (with_names ns i)).names (inner sc s ds).bindings × Renames setting (elsewhere sc k a e) (with_names ns i) (inner sc s ds).bindings (within_let ds (with_names ns i))
procedures_mean sc p s i n d ds c c0 setting k a e ns some v f u =
    let z = renames_procedures ds setting (elsewhere sc k a e) ns i (s.number + 1) some u in
    let based : AreProcedures setting.lasting sc.own sc.targets sc.bindings i (s.number + 1) ds =
    procedures_based setting.lasting sc.own sc.targets sc.bindings (inner sc s ds).bindings p (first_defined s ds) i (s.number + 1) n d ds refl v.0 f in
    (z.agree, (z.keeps, λ bases frame grown r. record { each = (z.means based bases frame grown r).each }))

-- the names behind a LET, before the run
let_after : (sc : Scene) (p : Enclosing) (s : Spot) (i l d : ℕ) (ds : Definitions) (setting : Setting) (k q : ℕ) (ns : List Named) → RegularDefinitions ds → Agree (bind_procedures ds (with_names ns i)).names (inner sc s ds).bindings
    → Agree (declared (t.definitions l ds) (with_names ns i)).names (bind_all (from_spots q (slots_here sc p s d ds)) (inner sc s ds).bindings)
    × ((bases : List ℕ) (frame : ℕ) → NamedIn (there_in (home (inner sc s ds) 0) k) (with_names (bind_procedures ds (with_names ns i)).names 0) bases frame
    → NamedIn (there_in (home (record sc { bindings = bind_all (from_spots q (slots_here sc p s d ds)) (inner sc s ds).bindings }) 0) k) (with_names (declared (t.definitions l ds) (with_names ns i)).names 0) bases frame)
let_after sc p s i l d ds setting k q ns r u =
    let bl = (inner sc s ds).bindings in
    let ps = slots_here sc p s d ds in
    let names = (bind_procedures ds (with_names ns i)).names in
    let j : ℕ = i + objects_of_definitions ds in
    let e = hidden_are bl p (first_defined s ds) d ds (with_names names j) r in (
      subst (λ (z : Environment). Agree z.names (bind_all (from_spots q ps) bl)) e (foreign_agree ps names bl j q u),
      λ bases frame v.
          let w = foreign_mean ps (there_in (home (inner sc s ds) 0) k) (with_names names j) q bases frame (record { each = v.each }) in
          let w1 : NamedIn (there_in (home (record sc { bindings = bind_all (from_spots q ps) bl }) 0) k) (foreign_spots ps (with_names names j)) bases frame = record { each = w.each } in
          let w2 = subst (λ (z : Environment). NamedIn (there_in (home (record sc { bindings = bind_all (from_spots q ps) bl }) 0) k) z bases frame) e w1 in
          record { each = w2.each },
    )

-- a LET, and what is laid behind it
pub let_bases : (pay : ℕ) (valofs : ValofsLie pay) (blocks : BlocksLie pay) (sc : Scene) (p : Enclosing) (s : Spot) (i l : ℕ) (ds : Definitions) (d n many : ℕ) (c c1 : List Stmt) {qs : List Part} {D : ℕ → ℕ} (E : ℕ → ℕ) (L : List Named → List Lasting) (Then : Later) → Around sc p d
    → SoundOneDeclared sc.bindings p s (t.definitions l ds) → RegularDefinitions ds → turns_defined true ds ≤ pay → (ff : FoundParts sc.own sc.targets (parts_of_declaration d n (declaration_named sc.bindings p s (t.definitions l ds)) ++ qs))
    → c ≡ declaration_code sc.targets d n (declaration_named sc.bindings p s (t.definitions l ds)) ++ c1 → IsNumbered sc.own d c → ((a : ℕ) → data_at sc.own a c + D a ≤ E a + data_at sc.own a c1)
    → Bases (record (home sc pay) { bindings = scope_after_one sc.bindings p s (t.definitions l ds) }) (i + objects_of_definitions ds) many qs (found_back sc.own sc.targets (parts_of_declaration d n (declaration_named sc.bindings p s (t.definitions l ds))) qs ff) L D
    (LaidLater Then sc (scope_after_one sc.bindings p s (t.definitions l ds)) (depth_here sc p s d ds) (i + objects_of_definitions ds) c1)
    → Bases (home sc pay) i (objects_of_definitions ds + many) (parts_of_declaration d n (declaration_named sc.bindings p s (t.definitions l ds)) ++ qs) ff (λ ns. of_declaration (with_names ns i) (t.definitions l ds) ++ L (declared (t.definitions l ds) (with_names ns i)).names) E
    (InNames sc.bindings i (λ setting env. IsOneDeclared setting sc d env (t.definitions l ds) (Then setting) c))
let_bases pay valofs blocks sc p s i l ds d n many c c1 {qs} {D} E L Then a h r m ff k st within b =
    let hm : Home = home sc pay in
    let qs0 : List Part = parts_of_declaration d n (declaration_named sc.bindings p s (t.definitions l ds)) in
    let f = found_front sc.own sc.targets qs0 qs ff in
    let bl = (inner sc s ds).bindings in
    let ps = slots_here sc p s d ds in
    let d1 : ℕ = depth_here sc p s d ds in
    let c0 = behind_let sc p s d ds c1 in
    let j : ℕ = i + objects_of_definitions ds in
    let lies = definitions_lie pay valofs blocks sc p s i l ds d n c c1 a h r m f k st in
    let vars = variables_in bl p (first_defined s ds) d ds a.at h r lies.on.shallow in
    let q : ℕ = p.procedure in
    let bs : List Binding = bind_all (from_spots q ps) bl in
    let others = subst (λ (z : List Binding). Bases (record hm { bindings = bind_all z bl }) j many qs (found_back sc.own sc.targets qs0 qs ff) L D (LaidLater Then sc (bind_all z bl) d1 j c1)) vars.are b in
    let there : Exits = record { loop = false; switch = false } in
    let P : Setting → Type 0 = λ setting. (0 < i) × DefinedHere sc p s i n d ds c c0 setting in
    let own = bases_some hm (bases_under hm bl (λ ns. (bind_procedures ds (with_names ns i)).names)
    (λ setting some v ns u w. (
      (procedures_mean sc p s i n d ds c c0 setting 0 outermost there ns some v f u).0,
      λ k bases frame grown. record { each = ((procedures_mean sc p s i n d ds c c0 setting k outermost there ns some v f u).1.1 bases frame grown (record { each = (w k bases frame grown).each })).each },
    )) lies.objects_are) in
    let both = then_bases hm bs i (objects_of_definitions ds) many qs0 ff P (LaidLater Then sc bs d1 j c1) (λ ns. (declared (t.definitions l ds) (with_names ns i)).names) own
    (λ setting y ns u w.
    let v = own.laid setting y in (
      (let_after sc p s i l d ds setting 0 q ns r (procedures_mean sc p s i n d ds c c0 setting 0 outermost there ns v.0 v.1 f u).0).0,
      λ k bases frame grown.
          let z = procedures_mean sc p s i n d ds c c0 setting k outermost there ns v.0 v.1 f u in
          (let_after sc p s i l d ds setting k q ns r z.0).1 bases frame (record { each = (z.1.1 bases frame grown (record { each = (w k bases frame grown).each })).each }),
    )) others in
    bases_within hm (λ v. let u = lies.paid v in let w = within v in let o = within_at sc.own v (cond (has_variables (definitions_named bl p (first_defined s ds) ds)) (Store ∷ []) []) c1 in omega (arith, u, w, o))
    (bases_so hm _ (λ setting y v ns u.
    let z = procedures_mean sc p s i n d ds c c0 setting sc.procedure sc.around sc.exits ns v.0.0 v.0.1 f u in
    let names = (bind_procedures ds (with_names ns i)).names in (
      bl,
      bs,
      d1,
      ps,
      c0,
      c1,
      z.1,
      renames_variables ps sc bl (within_let ds (with_names ns i)) (objects_of_definitions ds) q z.1.0 vars.fit,
      v.0.1.1 names z.0,
      stored (has_variables (definitions_named bl p (first_defined s ds) ds)) c1 ∙ ap (λ w. cond w (Store ∷ c1) c1) (variables_here bl p (first_defined s ds) ds),
      lies.on.shallow,
      (λ o some. subst (λ w. Then setting (record sc { bindings = bs }) d1 (with_names (variables_bound o ps (with_names names j)).names w) c1) (sym (next_bound ps o (with_names names j)))
          (v.1 (variables_bound o ps (with_names names j)).names (bound_agree ps names bl j o q some z.0))),
    )) both)

-- ---- one declaration

-- where no code stands for it
at_code : (pay : ℕ) (sc : Scene) (i : ℕ) (x : Declaration) (d many : ℕ) (c c1 : List Stmt) (bs : List Binding) {qs : List Part} {g : FoundParts sc.own sc.targets qs} {D : ℕ → ℕ} (L : List Named → List Lasting) (Then : Later) → c ≡ c1
    → Bases (record (home sc pay) { bindings = bs }) (i + objects_of_declaration x) many qs g L D (LaidLater Then sc bs d (i + objects_of_declaration x) c1)
    → Bases (record (home sc pay) { bindings = bs }) (i + objects_of_declaration x) many qs g L D (LaidLater Then sc bs d (i + objects_of_declaration x) c)
at_code pay sc i x d many c c1 bs {qs} {g} {D} L Then k b = subst (λ z. Bases (record (home sc pay) { bindings = bs }) (i + objects_of_declaration x) many qs g L D (LaidLater Then sc bs d (i + objects_of_declaration x) z)) (sym k) b

pub one_bases : (pay : ℕ) (valofs : ValofsLie pay) (blocks : BlocksLie pay) (sc : Scene) (p : Enclosing) (s : Spot) (i : ℕ) (x : Declaration) (d n many : ℕ) (c c1 : List Stmt) {qs : List Part} {D : ℕ → ℕ} (E : ℕ → ℕ) (L : List Named → List Lasting) (Then : Later) → Around sc p d
    → SoundOneDeclared sc.bindings p s x → RegularDeclaration x → turns_one_declared true x ≤ pay → (f : FoundParts sc.own sc.targets (parts_of_declaration d n (declaration_named sc.bindings p s x) ++ qs))
    → c ≡ declaration_code sc.targets d n (declaration_named sc.bindings p s x) ++ c1 → IsNumbered sc.own d c → ((a : ℕ) → data_at sc.own a c + D a ≤ E a + data_at sc.own a c1)
    → Bases (record (home sc pay) { bindings = scope_after_one sc.bindings p s x }) (i + objects_of_declaration x) many qs (found_back sc.own sc.targets (parts_of_declaration d n (declaration_named sc.bindings p s x)) qs f) L D
    (LaidLater Then sc (scope_after_one sc.bindings p s x) (after_declaration d (declaration_named sc.bindings p s x)) (i + objects_of_declaration x) c1)
    → Bases (home sc pay) i (objects_of_declaration x + many) (parts_of_declaration d n (declaration_named sc.bindings p s x) ++ qs) f (λ ns. of_declaration (with_names ns i) x ++ L (declared x (with_names ns i)).names) E (InNames sc.bindings i (λ g env. IsOneDeclared g sc d env x (Then g) c))
one_bases pay valofs blocks sc p s i (t.constants l sort.Manifest is) d n many c c1 E L Then a h r m f k st within b =
    bases_within (home sc pay) (λ q. let v = within q in let e = ap (data_at sc.own q) k in omega (arith, v, e)) (constants_bases pay sc p s l sort.Manifest is i d n many c L Then a.words h r f (at_code pay sc i (t.constants l sort.Manifest is) d many c c1 (scope_after_one sc.bindings p s (t.constants l sort.Manifest is)) L Then k b))
one_bases pay valofs blocks sc p s i (t.constants l sort.Static is) d n many c c1 E L Then a h r m f k st within b =
    bases_within (home sc pay) (λ q. let v = within q in let e = ap (data_at sc.own q) k in omega (arith, v, e)) (constants_bases pay sc p s l sort.Static is i d n many c L Then a.words h r f (at_code pay sc i (t.constants l sort.Static is) d many c c1 (scope_after_one sc.bindings p s (t.constants l sort.Static is)) L Then k b))
one_bases pay valofs blocks sc p s i (t.constants l sort.Global is) d n many c c1 E L Then a h r m f k st within b =
    bases_within (home sc pay) (λ q. let v = within q in let e = ap (data_at sc.own q) k in omega (arith, v, e)) (constants_bases pay sc p s l sort.Global is i d n many c L Then a.words h r f (at_code pay sc i (t.constants l sort.Global is) d many c c1 (scope_after_one sc.bindings p s (t.constants l sort.Global is)) L Then k b))
one_bases pay valofs blocks sc p s i (t.definitions l ds) d n many c c1 E L Then a h r m f k st within b = let_bases pay valofs blocks sc p s i l ds d n many c c1 E L Then a h r m f k st within b

-- what stands around code behind constants
pub behind_constants : (sc : Scene) (p : Enclosing) (s : Spot) (l : ℕ) (o : Sort) (is : Items) (d : ℕ) → Doing sc p d → RegularItems is → Doing (record sc { bindings = scope_after_one sc.bindings p s (t.constants l o is) }) p d
behind_constants sc p s l sort.Manifest is d a r = exits_same p p (refl, refl, refl) sc _ d d a refl a.around.at (words_manifests sc.bindings is a.around.words r)
behind_constants sc p s l sort.Static is d a r = exits_same p p (refl, refl, refl) sc _ d d a refl a.around.at (words_statics (s.number + 1) is sc.bindings a.around.words)
behind_constants sc p s l sort.Global is d a r = exits_same p p (refl, refl, refl) sc _ d d a refl a.around.at (words_globals sc.bindings is sc.bindings a.around.words)

-- where code goes on behind it
pub behind_one : (pay : ℕ) (valofs : ValofsLie pay) (blocks : BlocksLie pay) (sc : Scene) (p : Enclosing) (s : Spot) (x : Declaration) (d n : ℕ) (c c1 : List Stmt) → Doing sc p d → SoundOneDeclared sc.bindings p s x → RegularDeclaration x
    → turns_one_declared true x ≤ pay → FoundParts sc.own sc.targets (parts_of_declaration d n (declaration_named sc.bindings p s x)) → c ≡ declaration_code sc.targets d n (declaration_named sc.bindings p s x) ++ c1 → IsNumbered sc.own d c
    → IsNumbered sc.own (after_declaration d (declaration_named sc.bindings p s x)) c1
    × Doing (record sc { bindings = scope_after_one sc.bindings p s x }) (place_after_one sc.bindings p s x) (after_declaration d (declaration_named sc.bindings p s x))
behind_one pay valofs blocks sc p s (t.constants l sort.Manifest is) d n c c1 a h r m f k st = (written sc.own d c c1 k st, behind_constants sc p s l sort.Manifest is d a r)
behind_one pay valofs blocks sc p s (t.constants l sort.Static is) d n c c1 a h r m f k st = (written sc.own d c c1 k st, behind_constants sc p s l sort.Static is d a r)
behind_one pay valofs blocks sc p s (t.constants l sort.Global is) d n c c1 a h r m f k st = (written sc.own d c c1 k st, behind_constants sc p s l sort.Global is d a r)
behind_one pay valofs blocks sc p s (t.definitions l ds) d n c c1 a h r m f k st =
    let bl = (inner sc s ds).bindings in
    let d1 : ℕ = depth_here sc p s d ds in
    let lies = definitions_lie pay valofs blocks sc p s 0 l ds d n c c1 a.around h r m f k st in
    let vars = variables_in bl p (first_defined s ds) d ds a.around.at h r lies.on.shallow in
    let words : HasWords (bind_all (from_spots p.procedure (slots_here sc p s d ds)) bl) = spots_words (slots_here sc p s d ds) p.procedure bl (words_procedures (s.number + 1) ds sc.bindings a.around.words) in
    let same = (same_defined bl p ds).1 in (
      behind_store sc (has_variables (definitions_named bl p (first_defined s ds) ds)) d1 c1 lies.on,
      exits_same p (place_after_defined bl p ds) (ap (λ z. z.loop) same, ap (λ z. z.switch) same, ap (λ z. z.valof) same) sc _ d d1 a vars.procedure vars.depth (subst (λ z. HasWords (bind_all z bl)) (sym vars.are) words),
    )

-- ---- declarations in order

pub declared_behind : (pay : ℕ) (valofs : ValofsLie pay) (blocks : BlocksLie pay) (sc : Scene) (p : Enclosing) (s : Spot) (xs : Declarations) (d n : ℕ) (c c1 : List Stmt) → Doing sc p d → SoundDeclared sc.bindings p s xs → RegularDeclarations xs
    → turns_declared true xs ≤ pay → FoundParts sc.own sc.targets (parts_of_declarations d n (declarations_named sc.bindings p s xs)) → c ≡ declarations_code sc.targets d n (declarations_named sc.bindings p s xs) ++ c1 → IsNumbered sc.own d c
    → IsNumbered sc.own (after_declarations d (declarations_named sc.bindings p s xs)) c1
    × Doing (record sc { bindings = scope_after sc.bindings p s xs }) (place_after_all sc.bindings p s xs) (after_declarations d (declarations_named sc.bindings p s xs))
declared_behind pay valofs blocks sc p s t.no_declarations d n c c1 a h r m f k st = (written sc.own d c c1 k st, a)
declared_behind pay valofs blocks sc p s (t.declare x xs) d n c c1 a h r m f k st =
    let one = declaration_named sc.bindings p s x in
    let bs = scope_after_one sc.bindings p s x in
    let p1 : Enclosing = place_after_one sc.bindings p s x in
    let s1 : Spot = after_one_declared x s in
    let more = declarations_code sc.targets (after_declaration d one) (n + labels_of_declaration one) (declarations_named bs p1 s1 xs) in
    let first = behind_one pay valofs blocks sc p s x d n c (more ++ c1) a h.0 r.0 (omega (arith, m)) (found_front sc.own sc.targets (parts_of_declaration d n one) _ f) (joined_two (declaration_code sc.targets d n one) more c1 c k) st in
    declared_behind pay valofs blocks (record sc { bindings = bs }) p1 s1 xs (after_declaration d one) (n + labels_of_declaration one) (more ++ c1) c1 first.1 h.1 r.1 (omega (arith, m))
    (found_back sc.own sc.targets (parts_of_declaration d n one) _ f) refl first.0

pub declared_bases : (pay : ℕ) (valofs : ValofsLie pay) (blocks : BlocksLie pay) (sc : Scene) (p : Enclosing) (s : Spot) (i : ℕ) (xs : Declarations) (d n many : ℕ) (c c1 : List Stmt) {qs : List Part} {D : ℕ → ℕ} (E : ℕ → ℕ) (L : List Named → List Lasting) (Then : Later) → Doing sc p d
    → SoundDeclared sc.bindings p s xs → RegularDeclarations xs → turns_declared true xs ≤ pay → (f : FoundParts sc.own sc.targets (parts_of_declarations d n (declarations_named sc.bindings p s xs) ++ qs))
    → c ≡ declarations_code sc.targets d n (declarations_named sc.bindings p s xs) ++ c1 → IsNumbered sc.own d c → ((a : ℕ) → data_at sc.own a c + D a ≤ E a + data_at sc.own a c1)
    → ((g : FoundParts sc.own sc.targets qs) → Bases (record (home sc pay) { bindings = scope_after sc.bindings p s xs }) (i + objects_of_declarations xs) many qs g L D
    (LaidLater Then sc (scope_after sc.bindings p s xs) (after_declarations d (declarations_named sc.bindings p s xs)) (i + objects_of_declarations xs) c1))
    → Bases (home sc pay) i (objects_of_declarations xs + many) (parts_of_declarations d n (declarations_named sc.bindings p s xs) ++ qs) f (λ ns. of_declarations (with_names ns i) xs ++ L (all_declared xs (with_names ns i)).names) E (InNames sc.bindings i (λ setting env. AreDeclared setting sc d env xs (Then setting) c))
declared_bases pay valofs blocks sc p s i t.no_declarations d n many c c1 {qs} {D} E L Then a h r m f k st within b =
    let none : i + 0 ≡ i = omega arith in
    let same : many ≡ 0 + many = omega arith in
    let b1 = subst (λ z. Bases (home sc pay) z many qs f L D (LaidLater Then sc sc.bindings d z c1)) none (b f) in
    let b2 = subst (λ z. Bases (home sc pay) i many qs f L D (LaidLater Then sc sc.bindings d i z)) (sym k) b1 in
    bases_within (home sc pay) (λ q. let v = within q in let e = ap (data_at sc.own q) k in omega (arith, v, e)) (subst (λ z. Bases (home sc pay) i z qs f L D (LaidLater Then sc sc.bindings d i c)) same b2)
declared_bases pay valofs blocks sc p s i (t.declare x xs) d n many c c1 {qs} {D} E L Then a h r m ff k st within b =
    let hm : Home = home sc pay in
    let one = declaration_named sc.bindings p s x in
    let bs = scope_after_one sc.bindings p s x in
    let p1 : Enclosing = place_after_one sc.bindings p s x in
    let s1 : Spot = after_one_declared x s in
    let d1 : ℕ = after_declaration d one in
    let n1 : ℕ = n + labels_of_declaration one in
    let ox : ℕ = objects_of_declaration x in
    let os : ℕ = objects_of_declarations xs in
    let named = declarations_named bs p1 s1 xs in
    let more = declarations_code sc.targets d1 n1 named in
    let inside : Scene = record sc { bindings = bs } in
    let own_parts : List Part = parts_of_declaration d n one in
    let other_parts : List Part = parts_of_declarations d1 n1 named in
    let all_parts = append_assoc own_parts other_parts qs in
    let k1 = joined_two (declaration_code sc.targets d n one) more c1 c k in
    let further : i + (ox + os) ≡ i + ox + os = omega arith in
    let many_more : ox + (os + many) ≡ ox + os + many = omega arith in
    let E1 : ℕ → ℕ = λ q. data_within sc.own q more c1 + D q in
    let objects_said : List Named → List Lasting = λ ns. of_declarations (with_names ns i) (t.declare x xs) ++ L (all_declared (t.declare x xs) (with_names ns i)).names in
    let laid_said : Setting → Type 0 = InNames sc.bindings i (λ setting env. AreDeclared setting sc d env (t.declare x xs) (Then setting) c) in
    let said : (g : FoundParts sc.own sc.targets (own_parts ++ (other_parts ++ qs))) → Bases hm i (ox + (os + many)) (own_parts ++ (other_parts ++ qs)) g objects_said E laid_said = λ f.
    let first = behind_one pay valofs blocks sc p s x d n c (more ++ c1) a h.0 r.0 (omega (arith, m)) (found_front sc.own sc.targets own_parts (other_parts ++ qs) f) k1 st in
    let others = declared_bases pay valofs blocks inside p1 s1 (i + ox) xs d1 n1 many (more ++ c1) c1 E1 L Then first.1 h.1 r.1 (omega (arith, m)) (found_back sc.own sc.targets own_parts (other_parts ++ qs) f) refl first.0
    (λ q. let w = within_at sc.own q more c1 in omega (arith, w)) (λ g. subst (λ z. Bases (record hm { bindings = scope_after bs p1 s1 xs }) z many qs g L D (LaidLater Then sc (scope_after bs p1 s1 xs) (after_declarations d1 named) z c1)) further (b g)) in
    let whole = one_bases pay valofs blocks sc p s i x d n (os + many) c (more ++ c1) E (λ ns. of_declarations (with_names ns (i + ox)) xs ++ L (all_declared xs (with_names ns (i + ox))).names)
    (λ setting sc0 d0 env0 c0. AreDeclared setting sc0 d0 env0 xs (Then setting) c0) a.around h.0 r.0 (omega (arith, m)) f k1 st (λ q. let v = within q in let w = within_at sc.own q more c1 in omega (arith, v, w)) others in
    bases_of hm _ objects_said (λ ns.
    let env : Environment = declared x (with_names ns i) in
    ap (λ z. of_declaration (with_names ns i) x ++ (of_declarations (with_names env.names z) xs ++ L (all_declared xs (with_names env.names z)).names)) (sym (declared-next x (with_names ns i)))
    ∙ sym (append_assoc (of_declaration (with_names ns i) x) (of_declarations env xs) (L (all_declared xs env).names))) whole in
    subst (λ z. Bases hm i z (parts_of_declarations d n (declarations_named sc.bindings p s (t.declare x xs)) ++ qs) ff objects_said E laid_said) many_more
    (subst (λ z. (g : FoundParts sc.own sc.targets z) → Bases hm i (ox + (os + many)) z g objects_said E laid_said) (sym all_parts) said ff)
