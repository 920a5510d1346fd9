-- Procedures are laid where the scheme puts them, where their bodies are: their ENTRY and SAVE, and what their formals are.
use Rattle.bk_simulation.proofs.Terms.{Bound as b, procedure}
use Rattle.bk_scope.specs.Places.{kept}
use Rattle.bk_meaning.specs.Environment as m
use Rattle.bk_simulation.proofs.HeldData.{statement_data, statement_below, word_paid, bound_global, IsCalled, word_base, words_bound, BaseOf, Codes, with_names, Setting, Scene, IsWord, NamedIn, bound_named, IsBody, InData, HeldWord, HeldList, Agree, SameGlobal, global_of, same_global, own_cell, agree_bound, settings, setting_of, Follow, FollowWords, there_in, bases_under, IsNumbered, first_of, passed, written, Home, Suits, Bases, FoundParts, DataIn, data_within, HasWords, joined_two, place_of, ◌≡◌, ℕ, suc, ◌+◌, ◌-◌, ◌<◌, ◌≤◌, ◌^◌, false, List, [], ◌∷◌, ◌++◌, length, Option, Some, None, cond, refl, sym, ap, ap₂, ◌∙◌, subst, arith, slice_get, drop, bytes_eq-Decides, FRAME_WORDS, Mention, Bound, Binding, bound_in, bind, with_formals, Callable, next_depth, depth_after, Placed, Program, IsWellPlaced, item_words, Stmt, Entry, Save, EndProcedure, DataLabel, DataAddress, Target, meant, variable, outermost, procedure_code, word_code, Named, Sense, Environment, cell, foreign, bind_each, sense_in, global_named, letters, Body, command, expression, Lasting, code, of_command, of_expression, in_scope, bind_formals, Part, data_code, entries_of, entry_of, entry_setting, joined, map, map-append}

-- ---- along a section

-- behind more statements
pub all_passed : (own : Placed) (d : ℕ) (xs c : List Stmt) → IsNumbered own d (xs ++ c) → IsNumbered own (depth_after d xs) c
all_passed own d [] c h = h
all_passed own d (x ∷ xs) c h = all_passed own (next_depth d x) xs c (passed own d (next_depth d x) x (xs ++ c) h refl)

-- ---- formals

pub words_formals : (j d : ℕ) (fs : List Mention) (bs : List Binding) → HasWords bs → HasWords (with_formals j d fs bs)
words_formals j d [] bs h = h
words_formals j d (x ∷ xs) bs h = words_formals j (kept (d + 1)) xs (bind x.letters (b.Variable j d) bs) (words_bound x.letters (b.Variable j d) bs (λ v e. absurd (cc)) h)

-- formals hide names in the same way here and there
pub agree_formals : (j d o k : ℕ) (fs : List Mention) (ns : List Named) (bs : List Binding) (i : ℕ) → 0 < o → Agree ns bs
    → Agree (bind_formals o k (letters fs) (with_names ns i)).names (with_formals j d fs bs) × ((bind_formals o k (letters fs) (with_names ns i)).next ≡ i)
agree_formals j d o k [] ns bs i some a = (a, refl)
agree_formals j d o k (x ∷ xs) ns bs i some a =
    agree_formals j (kept (d + 1)) o (suc k) xs (record { name = x.letters; sense = cell o k } ∷ ns) (bind x.letters (b.Variable j d) bs) i some (agree_bound x.letters (cell o k) (b.Variable j d) ns bs refl (own_cell o k some) a)

-- formals are the words behind the links of the frame
pub formals_named : (sc : Scene) (j o k d : ℕ) (fs : List Mention) (bs : List Binding) (env : Environment) (bases : List ℕ) (frame : ℕ) → d ≡ k + 2 → d + length fs ≤ FRAME_WORDS → BaseOf bases o (frame + 2)
    → frame ≤ 2 ^ 31 - 65536 → NamedIn (record sc { bindings = bs }) env bases frame → NamedIn (record sc { bindings = with_formals j d fs bs }) (bind_formals o k (letters fs) env) bases frame
formals_named sc j o k d [] bs env bases frame e few base low n = n
formals_named sc j o k d (x ∷ xs) bs env bases frame e few base low n =
    let same : kept (d + 1) ≡ suc k + 2 = omega (arith, e, few) in
    let less : kept (d + 1) + length xs ≤ FRAME_WORDS = omega (arith, e, few) in
    let small : frame + 2 + k < 2 ^ 32 = omega (arith, e, few, low) in
    let there : frame + 2 + k ≡ frame + d = omega (arith, e) in
    let mine : bound_in (bind x.letters (b.Variable j d) bs) x.letters ≡ Some (b.Variable j d) = ap (λ q. cond q (Some (b.Variable j d)) (bound_in bs x.letters)) ((bytes_eq-Decides x.letters x.letters).1 refl) in
    formals_named sc j o (suc k) (kept (d + 1)) xs (bind x.letters (b.Variable j d) bs) (m.bind x.letters (cell o k) env) bases frame same less base low
    (bound_named (record sc { bindings = bs }) env bases frame x.letters (b.Variable j d) (cell o k)
    (frame + 2, base, small, there ∙ ap (λ y. place_of sc.own frame (variable sc.targets (meant y))) (sym mine), subst (λ y. IsWord y) (sym mine) tt) n)

-- formals are foreign before the run, and hide names as they do in it
foreign_agree : (j d : ℕ) (fs : List Mention) (ns : List Named) (bs : List Binding) → Agree ns bs → Agree (bind_each (letters fs) foreign (with_names ns 0)).names (with_formals j d fs bs)
foreign_agree j d [] ns bs a = a
foreign_agree j d (x ∷ xs) ns bs a =
    foreign_agree j (kept (d + 1)) xs (record { name = x.letters; sense = foreign } ∷ ns) (bind x.letters (b.Variable j d) bs) (agree_bound x.letters foreign (b.Variable j d) ns bs refl refl a)

foreign_named : (sc : Scene) (j d : ℕ) (fs : List Mention) (bs : List Binding) (env : Environment) (bases : List ℕ) (frame : ℕ) → NamedIn (record sc { bindings = bs }) env bases frame
    → NamedIn (record sc { bindings = with_formals j d fs bs }) (bind_each (letters fs) foreign env) bases frame
foreign_named sc j d [] bs env bases frame n = n
foreign_named sc j d (x ∷ xs) bs env bases frame n =
    foreign_named sc j (kept (d + 1)) xs (bind x.letters (b.Variable j d) bs) (m.bind x.letters foreign env) bases frame (bound_named (record sc { bindings = bs }) env bases frame x.letters (b.Variable j d) foreign tt n)

pub formals_around : (pay section : ℕ) (own : Placed) (ts : List Target) (bs : List Binding) (k : ℕ) (fs : List Mention) {i many : ℕ} {ps : List Part} {f : FoundParts own ts ps} (L : List Named → List Lasting) {C : ℕ → ℕ} {P : Setting → Type 0}
    → Bases (record { section = section; own = own; targets = ts; bindings = with_formals k 2 fs bs; pay = pay }) i many ps f L C P
    → Bases (record { section = section; own = own; targets = ts; bindings = bs; pay = pay }) i many ps f (λ ns. L ((bind_each (letters fs) foreign (with_names ns 0)).names)) C P
formals_around pay section own ts bs k fs L a =
    let h : Home = record { section = section; own = own; targets = ts; bindings = bs; pay = pay } in
    bases_under h (with_formals k 2 fs bs) (λ ns. (bind_each (letters fs) foreign (with_names ns 0)).names)
    (λ setting some z ns u v. (foreign_agree k 2 fs ns bs u, (λ q bases frame grown. record { each = (foreign_named (there_in h q) k 2 fs bs (with_names ns 0) bases frame (v q bases frame grown)).each }))) a

-- ---- procedures

-- where the body of procedure k stands
abbrev pub scene_of : ℕ → Placed → List Target → List Binding → ℕ → Scene
scene_of section own ts bs k = record { section = section; own = own; targets = ts; bindings = bs; procedure = k; around = outermost; exits = record { loop = false; switch = false } }

-- what lasts in a body
abbrev pub of_body : Body → Environment → List Lasting
of_body (command a) env = of_command (in_scope a env) a
of_body (expression e) env = of_expression env e

-- A procedure that is laid: its ENTRY with this label, its SAVE, and its body, with formals that are any object.
pub record ProcedureLies (pay section : ℕ) (own : Placed) (ts : List Target) (bs : List Binding) (k : ℕ) (fs : List Mention) (i many : ℕ) (body : Body) (n : ℕ) (ps : List Part) (f : FoundParts own ts ps) (C : ℕ → ℕ) : Type 0 where
  pub place : ℕ
  pub name : List ℕ
  pub at : slice_get own.stmts place ≡ Some (Entry n name)
  pub code : List Stmt
  pub following : drop (suc place) own.stmts ≡ Save (length fs + 2) ∷ code
  pub few : length fs + 2 ≤ FRAME_WORDS
  pub objects_are : Bases (record { section = section; own = own; targets = ts; bindings = bs; pay = pay }) i many ps f (λ ns. of_body body (bind_each (letters fs) foreign (with_names ns i))) C
      (λ g. (ns : List Named) → Agree ns bs → (o : ℕ) → 0 < o → IsBody g (scene_of section own ts (with_formals k 2 fs bs) k) (length fs + 2) (bind_formals o 0 (letters fs) (with_names ns i)) body code)

-- It is laid where its statements stand, if its body is.
pub body_lies : (pay section : ℕ) (own : Placed) (ts : List Target) (bs : List Binding) (k : ℕ) (fs : List Mention) (i many : ℕ) (body : Body) (n : ℕ) (ps : List Part) {f : FoundParts own ts ps} {C : ℕ → ℕ}
    → (d : ℕ) (name : List ℕ) (cs : List Stmt) (last : Stmt) (c rest : List Stmt)
    → c ≡ (Entry n name ∷ Save (length fs + 2) ∷ cs ++ (last ∷ EndProcedure ∷ [])) ++ rest → IsNumbered own d c
    → (IsNumbered own (length fs + 2) (cs ++ (last ∷ EndProcedure ∷ rest))
    → Bases (record { section = section; own = own; targets = ts; bindings = bs; pay = pay }) i many ps f (λ ns. of_body body (bind_each (letters fs) foreign (with_names ns i))) C
    (λ g. (ns : List Named) → Agree ns bs → (o : ℕ) → 0 < o
    → IsBody g (scene_of section own ts (with_formals k 2 fs bs) k) (length fs + 2) (bind_formals o 0 (letters fs) (with_names ns i)) body (cs ++ (last ∷ EndProcedure ∷ rest))))
    → ProcedureLies pay section own ts bs k fs i many body n ps f C
body_lies pay section own ts bs k fs i many body n ps d name cs last c rest e st laid =
    let depth = length fs + 2 in
    let all = cs ++ (last ∷ EndProcedure ∷ rest) in
    let st1 = written own d c (Entry n name ∷ Save depth ∷ all) (joined_two (Entry n name ∷ Save depth ∷ cs) (last ∷ EndProcedure ∷ []) rest c e) st in
    let entry = first_of own.stmts st1.place (Entry n name) (Save depth ∷ all) st1.following in
    let st3 = passed own 2 depth (Save depth) all (passed own d 2 (Entry n name) (Save depth ∷ all) st1 refl) refl in
    record { place = st1.place; name = name; at = entry.at; code = all; following = entry.following; few = st3.shallow; objects_are = laid st3 }

letters_length : (fs : List Mention) → length (letters fs) ≡ length fs
letters_length [] = refl
letters_length (x ∷ xs) = ap (λ k. suc k) (letters_length xs)

-- ---- what lasts of a procedure

-- its word
word_held : (setting : Setting) (section : ℕ) (own : Placed) (n number place : ℕ) (name : List ℕ) (y : Option Bound) → slice_get setting.program.sections section ≡ Some own → slice_get own.stmts place ≡ Some (Entry n name)
    → setting.codes.procedure number ≡ own.places.label n → Callable y → DataIn own (word_code n (meant y)) → BaseOf setting.lasting number (word_base own n (meant y)) → HeldWord setting number (global_of y)
word_held setting section own n number place name (Some (b.Global None)) is at word c d base = absurd (let h : None ≡ Some c.0 = c.1 in cc)
word_held setting section own n number place name (Some (b.Global (Some v))) is at word c d base = grind (arith, place)
word_held setting section own n number place name (Some (b.Static m)) is at word c d base =
    let items = DataAddress n ∷ d.rest in
    let found = statement_data setting.program section own d.depth (DataLabel (n + 1)) items (record { place = own.places.label (n + 1); words = item_words own.places items }) is d.stands refl in
    (own.places.label (n + 1), base, subst (λ ws. InData setting.program (own.places.label (n + 1)) ws) (ap₂ (λ x xs. x ∷ xs) (sym word) d.ends) found)
word_held setting section own n number place name _ is at word c d base = elim c [ ]

-- what its name means sets the global, if it is one
named_global : (s : Option Sense) (y : Option Bound) → SameGlobal s y → Callable y → global_named s ≡ bound_global (meant y)
named_global s (Some (b.Global None)) h c = absurd h
named_global s (Some (b.Global (Some v))) h c = h
named_global s (Some (b.Static m)) h c = h
named_global s _ h c = elim c [ ]

called : (y : Option Bound) → Callable y → IsCalled (meant y)
called (Some (b.Global None)) c = absurd (let h : None ≡ Some c.0 = c.1 in cc)
called (Some (b.Global (Some v))) c = tt
called (Some (b.Static m)) c = tt
called _ c = elim c [ ]

-- its base lies below the first frame
word_below : (section : ℕ) (own : Placed) (n : ℕ) (y : Option Bound) → DataIn own (word_code n (meant y)) → (program : Program) (first : ℕ) → IsWellPlaced program first FRAME_WORDS → slice_get program.sections section ≡ Some own
    → own.places.label n < first → word_base own n (meant y) ≤ first
word_below section own n (Some (b.Static m)) d program first well is low =
    let items = DataAddress n ∷ d.rest in
    statement_below section own d.depth (DataLabel (n + 1)) items (record { place = own.places.label (n + 1); words = item_words own.places items }) d.stands refl program first well is
word_below section own n _ d program first well is low = omega (arith, low)

-- what it sets in the run is what its entry sets
one_set : (codes : Codes) (own : Placed) (i n : ℕ) (g : Option ℕ) (y : Bound) → g ≡ bound_global y → IsCalled y → codes.procedure i ≡ own.places.label n → setting_of codes i g ≡ map (entry_setting own.places) (entry_of n y)
one_set codes own i n g (b.Static m) e c k = ap (setting_of codes i) e
one_set codes own i n g (b.Global (Some v)) e c k = ap (setting_of codes i) e ∙ ap (λ w. record { global = v; value = w } ∷ []) k
one_set codes own i n g _ e c k = elim c [ ]

-- A procedure, which has a part of its own, and what lasts in its body.
pub procedure_bases : (pay section : ℕ) (own : Placed) (ts : List Target) (bs : List Binding) (k : ℕ) (x : List ℕ) (fs : List Mention) (i many : ℕ) (body : Body) (n : ℕ) (part : Part) (ps : List Part) (f : FoundParts own ts (part ∷ ps))
    → ProcedureLies pay section own ts bs k fs (i + 1) many body n ps f.1 (λ q. data_within own q (procedure_code ts part) f.0.1.rest) → Callable (bound_in bs x) → entries_of part ≡ entry_of n (meant (bound_in bs x))
    → (word : DataIn own (word_code n (meant (bound_in bs x)))) → ((q : ℕ) → data_within own q (word_code n (meant (bound_in bs x))) word.rest ≤ data_within own q (data_code part) f.0.2.rest)
    → Bases (record { section = section; own = own; targets = ts; bindings = bs; pay = pay }) i (1 + many) (part ∷ ps) f
    (λ ns. code (record { formals = letters fs; body = body; env = with_names ns (i + 1); global = global_named (sense_in ns x) }) ∷ of_body body (bind_each (letters fs) foreign (with_names ns (i + 1)))) (λ q. 0)
    (λ setting. BaseOf setting.lasting i (word_base own n (meant (bound_in bs x))))
procedure_bases pay section own ts bs k x fs i many body n part ps f p callable sets word less =
    let o = p.objects_are in
    let same = letters_length fs in
    let few = p.few in
    let all = o.all in
    let entries = o.all_entries in
    let h : Home = record { section = section; own = own; targets = ts; bindings = bs; pay = pay } in
    let next : suc i ≡ i + 1 = omega arith in
    let inner : (setting : Setting) → Suits h i (word_base own n (meant (bound_in bs x)) ∷ o.bases) (own.places.label n ∷ o.entries) setting → Suits h (i + 1) o.bases o.entries setting =
    λ setting s. record { fits = s.fits; some = omega arith; follow = subst (λ z. Follow setting.lasting z o.bases) next (s.follow.1); words = subst (λ z. FollowWords setting.codes.procedure z o.entries) next (s.words.1) } in
    record {
      bases = word_base own n (meant (bound_in bs x)) ∷ o.bases;
      entries = own.places.label n ∷ o.entries;
      all = omega (arith, all);
      all_entries = omega (arith, entries);
      count = λ ns. let c = o.count ns in omega (arith, c);
      laid = λ setting s. s.follow.0;
      held = λ setting s ns u v. (
        (
          record {
            scene = scene_of section own ts (with_formals k 2 fs bs) k;
            is_own = s.fits.own;
            place = p.place;
            label = n;
            name = p.name;
            at = p.at;
            body = p.code;
            following = subst (λ z. drop (suc p.place) own.stmts ≡ Save (z + 2) ∷ p.code) (sym same) p.following;
            word = s.words.0;
            few = omega (arith, few, same);
            laid = λ ob above. subst (λ z. IsBody setting (scene_of section own ts (with_formals k 2 fs bs) k) (z + 2) (bind_formals ob 0 (letters fs) (with_names ns (i + 1))) body p.code) (sym same) (o.laid setting (inner setting s) ns u ob above);
            names = λ ob frame bases grown base low. formals_named (scene_of section own ts bs k) k ob 0 2 fs bs (with_names ns (i + 1)) bases frame refl (omega (arith, few)) base low (record { each = (v k bases frame grown).each });
          },
          subst (λ y. HeldWord setting i y) (sym (same_global (sense_in ns x) (bound_in bs x) (u.1 x))) (word_held setting section own n i p.place p.name (bound_in bs x) s.fits.own p.at s.words.0 callable word s.follow.0),
        ),
        subst (λ z. HeldList setting z (of_body body (bind_each (letters fs) foreign (with_names ns (i + 1))))) (sym next) (o.held setting (inner setting s) ns u v),
      );
      sets = λ setting s ns u v.
          ap₂ (λ y z. y ++ z) (one_set setting.codes own i n (global_named (sense_in ns x)) (meant (bound_in bs x)) (named_global (sense_in ns x) (bound_in bs x) (u.1 x) callable) (called (bound_in bs x) callable) s.words.0)
          (ap (λ m. settings setting.codes m (of_body body (bind_each (letters fs) foreign (with_names ns (i + 1))))) next ∙ o.sets setting (inner setting s) ns u v)
          ∙ sym (ap (λ y. map (entry_setting own.places) (y ++ joined entries_of ps)) sets ∙ map-append (entry_setting own.places) (entry_of n (meant (bound_in bs x))) (joined entries_of ps));
      once = λ setting s ns u v q.
          let y = word_paid own q n (meant (bound_in bs x)) (global_named (sense_in ns x)) word.rest (named_global (sense_in ns x) (bound_in bs x) (u.1 x) callable) (called (bound_in bs x) callable) in
          let l = less q in omega (arith, o.once setting (inner setting s) ns u v q, y, l);
      placed = λ program first well is.
          let q = o.placed program first well is in
          let e = well.entries section p.place n own p.name is p.at in
          ((word_below section own n (bound_in bs x) word program first well is e.2, q.0), (omega (arith, e.1), q.1));
    }
