-- The words of strings and tables are data of the program.
pub use Rattle.bk_simulation.proofs.Forms.{same_number, get_first, with_names, InData, Agree, IsNumbered, data_below, data_within, with_base, HasWords, constants_agree, constant_small, in_datum, ◌≡◌, ℕ, zero, suc, ◌+◌, ◌<◌, ◌≤◌, ◌^◌, List, [], ◌∷◌, ◌++◌, length, map, Option, Some, None, slice_get, drop, refl, sym, ap, ap₂, ◌∙◌, subst, arith, unwrap_or, signed, Expressions, Binding, constant_word, HaveWords, Placement, Placed, Program, Datum, item_words, datum_of, data_of, all_data, Stmt, DataNumber, worth, words_named, Named, constant_words, FRAME_WORDS, IsWellPlaced, ◌==◌, Bool, true, false, cond, eqb-true, is_in, DataLabel, DataAddress, word_code, Bound, words, option_map_or, RegularEach, words_bound, BaseOf, Codes, Setting, Scene, IsWord, NamedIn, bound_named, IsBody, HeldWord, HeldList, SameGlobal, global_of, same_global, own_cell, agree_bound, settings, setting_of, Follow, FollowWords, there_in, bases_under, first_of, passed, written, Home, Suits, Bases, FoundParts, DataIn, joined_two, place_of, ◌-◌, bytes_eq-Decides, Mention, bound_in, bind, with_formals, Callable, next_depth, depth_after, Entry, Save, EndProcedure, Target, meant, variable, outermost, procedure_code, Sense, Environment, cell, foreign, bind_each, sense_in, global_named, letters, Body, command, expression, Lasting, code, of_command, of_expression, in_scope, bind_formals, Part, data_code, entries_of, entry_of, entry_setting, joined, map-append, turns_one_declared, turns_declared, turns_defined, turns_started, of_light, in_light, Exits, Spot, defines_variables, variables_bound, Renames, IsOneDeclared, AreDeclared, AreDefined, pushes, AreStarts, IsCode, IsAlone, home, no_bases, bases_so, bases_of, bases_some, Lies, both_bases, new_base, then_bases, lie, bases_within, data_at, found_front, found_back, within_at, Around, InNames, around_deeper, words_manifests, words_statics, words_globals, words_procedures, turns_of, turns_among, Aim, jumps, ending, count, LabelAt, AreValues, IsAddress, IsStore, at_depth, label_at, call_at, three_bases, lies_behind, coded, own_parts, role, level, plain_laid, leaf_on, leaf_lies, pushed_depth, truth_depth, infix_on, joined_three, joined_choice, call_lies}
use Rattle.bk_tree.specs.Tree as t
use Rattle.bk_scope.specs.declared.bound.Bound.TheVariants as b

-- a place of a list behind others
pub get_after : {A : Type 0} (xs ys : List A) (i : ℕ) → slice_get (xs ++ ys) (length xs + i) ≡ slice_get ys i
get_after [] ys i = let e : 0 + i ≡ i = omega arith in ap (slice_get ys) e
get_after (x ∷ xs) ys i = let e : length (x ∷ xs) + i ≡ suc (length xs + i) = omega arith in ap (slice_get (x ∷ (xs ++ ys))) e ∙ get_after xs ys i

-- the one datum of a statement is among those of the section,
datum_in : (places : Placement) (stmts : List Stmt) (i : ℕ) (s : Stmt) (rest : List Stmt) (d : Datum) → drop i stmts ≡ s ∷ rest → datum_of places s rest ≡ d ∷ [] → (j : ℕ) × (slice_get (data_of places stmts) j ≡ Some d)
datum_in places [] zero s rest d e k = absurd (let h : [] ≡ s ∷ rest = e in cc)
datum_in places [] (suc i) s rest d e k = absurd (let h : [] ≡ s ∷ rest = e in cc)
datum_in places (x ∷ xs) zero s rest d e k = grind arith
datum_in places (x ∷ xs) (suc i) s rest d e k =
    let h = datum_in places xs i s rest d e k in
    (length (datum_of places x xs) + h.0, get_after (datum_of places x xs) (data_of places xs) h.0 ∙ h.1)

-- and so of the program
section_datum : (sections : List Placed) (k : ℕ) (own : Placed) (j : ℕ) (d : Datum) → slice_get sections k ≡ Some own → slice_get (data_of own.places own.stmts) j ≡ Some d → (i : ℕ) × (slice_get (all_data sections) i ≡ Some d)
section_datum [] k own j d e h = absurd (let x : None ≡ Some own = e in cc)
section_datum (x ∷ xs) zero own j d e h =
    let same : x ≡ own = (let y : Some x ≡ Some own = e in cc) in
    (j, get_first (data_of x.places x.stmts) (all_data xs) j d (ap (λ y. slice_get (data_of y.places y.stmts) j) same ∙ h))
section_datum (x ∷ xs) (suc k) own j d e h =
    let r = section_datum xs k own j d e h in
    (length (data_of x.places x.stmts) + r.0, get_after (data_of x.places x.stmts) (all_data xs) r.0 ∙ r.1)

pub statement_data : (program : Program) (section : ℕ) (own : Placed) (k : ℕ) (s : Stmt) (rest : List Stmt) (d : Datum) → slice_get program.sections section ≡ Some own → IsNumbered own k (s ∷ rest) → datum_of own.places s rest ≡ d ∷ []
    → InData program d.place d.words
statement_data program section own k s rest d is st e = grind (arith, datum_in, section_datum)

-- so its place lies below the first frame
pub statement_below : (section : ℕ) (own : Placed) (k : ℕ) (s : Stmt) (rest : List Stmt) (d : Datum) → IsNumbered own k (s ∷ rest) → datum_of own.places s rest ≡ d ∷ [] → (program : Program) (first : ℕ)
    → IsWellPlaced program first FRAME_WORDS → slice_get program.sections section ≡ Some own → d.place ≤ first
statement_below section own k s rest d st e program first well is = data_below program first well d.place d.words (statement_data program section own k s rest d is st e)

-- words one after another
abbrev pub AreSmall : List ℕ → Type 0
AreSmall [] = Unit {0}
AreSmall (w ∷ ws) = (w < 2 ^ 32) × AreSmall ws

pub items_are : (places : Placement) (ws : List ℕ) (rest : List Stmt) → AreSmall ws → item_words places rest ≡ [] → item_words places (map (λ w. DataNumber (signed w)) ws ++ rest) ≡ ws
items_are places [] rest h e = e
items_are places (w ∷ ws) rest h e = ap₂ (λ x xs. x ∷ xs) (same_number w h.0) (items_are places ws rest h.1 e)

pub words_small : (bs : List Binding) (es : Expressions) → HasWords bs → RegularEach es → HaveWords bs es → AreSmall (words_named bs es)
words_small bs t.none h r w = tt
words_small bs (t.more e es) h r w = let x = w.0 in (subst (λ y. worth y < 2 ^ 32) (sym x.1) (constant_small bs h e r.0 x.0 x.1), words_small bs es h r.1 w.1)

pub worth_is : (y : Option ℕ) → unwrap_or y 0 ≡ worth y
worth_is None = refl
worth_is (Some w) = refl

pub words_agree : (ns : List Named) (bs : List Binding) (i : ℕ) (es : Expressions) → Agree ns bs → constant_words (with_names ns i) es ≡ words_named bs es
words_agree ns bs i t.none a = refl
words_agree ns bs i (t.more e es) a = ap₂ (λ x xs. x ∷ xs) (ap (λ y. unwrap_or y 0) (constants_agree ns bs i a.0 e) ∙ worth_is (constant_word bs e)) (words_agree ns bs i es a)

-- ---- what is held, counted by its place

-- a datum that has words has its place
pub place_in : (d : Datum) (a : ℕ) → 0 < length d.words → cond (d.place == a) 1 0 ≤ cond (is_in a d) 1 0
place_in d a some = by_test (d.place == a) refl
  where
    by_test : (q : Bool) → (d.place == a) ≡ q → cond q 1 0 ≤ cond (is_in a d) 1 0
    by_test true e =
        let one : ℕ = 1 in
        let here : d.place + 0 ≡ a = let same = eqb-true d.place a e in omega (arith, same) in
        let h : cond (is_in a d) one 0 ≡ one = ap (λ (z : Bool). cond z one 0) (subst (λ p. is_in p d ≡ true) here (in_datum d 0 some)) in
        omega (arith, h)
    by_test false e = omega arith

-- words that are a datum
pub datum_paid : (place : ℕ) (ws : List ℕ) (a : ℕ) → with_base a (words ws ∷ []) (place ∷ []) ≤ cond (is_in a (record { place = place; words = ws })) 1 0
datum_paid place [] a = omega arith
datum_paid place (w ∷ ws) a = let h = place_in (record { place = place; words = w ∷ ws }) a (omega arith) in omega (arith, h)

-- words behind a label, and the word of a procedure
pub words_paid : (own : Placed) (a n : ℕ) (ws us : List ℕ) (rest : List Stmt) → us ≡ ws → with_base a (words us ∷ []) (own.places.label n ∷ []) ≤ data_within own a (DataLabel n ∷ map (λ w. DataNumber (signed w)) ws) rest
words_paid own a n ws [] rest e = omega arith
words_paid own a n [] (u ∷ us) rest e = absurd (cc)
words_paid own a n (w ∷ ws) (u ∷ us) rest e = grind (arith, place_in, words)

-- the global of a procedure by what its name means
abbrev pub bound_global : Bound → Option ℕ
bound_global (b.Global g) = g
bound_global _ = None

abbrev pub IsCalled : Bound → Type 0
IsCalled (b.Static m) = Unit {0}
IsCalled (b.Global (Some g)) = Unit {0}
IsCalled _ = ⊥

-- the base of a procedure's object: its word, or its entry where it sets a global
abbrev pub word_base : Placed → ℕ → Bound → ℕ
word_base own n (b.Static m) = own.places.label (n + 1)
word_base own n _ = own.places.label n

pub word_paid : (own : Placed) (a n : ℕ) (y : Bound) (g : Option ℕ) (rest : List Stmt) → g ≡ bound_global y → IsCalled y → option_map_or (λ _. 0) g (cond (word_base own n y == a) 1 0) ≤ data_within own a (word_code n y) rest
word_paid own a n (b.Static m) None rest e c = let h = place_in (record { place = own.places.label (n + 1); words = item_words own.places (DataAddress n ∷ rest) }) a (omega arith) in omega (arith, h)
word_paid own a n (b.Global (Some k)) None rest e c = absurd (cc)
word_paid own a n _ None rest e c = elim c [ ]
word_paid own a n y (Some g) rest e c = omega arith
