-- The pass and what is told: items, what variables begin with, declarations.
use Rattle.bk_scope.proofs.Terms.{◌≡◌, ℕ, ◌+◌, ◌^◌, ◌<◌, Bool, true, false, cond, Option, Some, None, List, [], ◌∷◌, ◌++◌, length, refl, sym, ap, ◌∙◌, append_assoc, subst, arith, nat_lt, append-nil, GLOBAL_NUMBER, VEC_NUMBER, Sort as sort, Mention, Expression, Declaration, Declarations, Items, Definitions, Starts, constants, definitions, no_declarations, declare, no_items, item, no_definitions, define, variables, no_starts, value, vector, at_expression, Constant, Global, Static, Enclosing, Value, Binding, bind, Wrong, global_out_of_range, vec_out_of_range, constant_word, Found, breaks, means, takes, reaches, deeper, Stage, AfterDeclarations, evaluated, listed, all_listed, constant_found, bounded, within, words_of_start, manifests, statics, globals, started, declared, one_declared, Spot, past, numbered, following, after_constant, after_one_declared, symbols, numbers, numbers_items, numbers_declared, numbers_one_declared, numbers_started, Point, at, meaning, word, manifests_in_scope, statics_in_scope, globals_in_scope, scope_after_one, place_after_one, scope_after, place_after_all, at_most, one_of, each_of, its_word, constant, pushed, manifest_items, static_items, global_items, reported, reported_declared, reported_one_declared, reported_started}
use Rattle.bk_scope.proofs.Tied.{Tied, Spans, broken, both, among, wider, behind_it, nothing_told}
use Rattle.bk_scope.proofs.Operators.{ETied}
use Rattle.bk_scope.proofs.Scopes.{DsTied, moved_tied, recount, no_span, pushed_tied, pushed_spans}
use Rattle.bk_scope.proofs.Procedures.{listed_tied, one_spans, each_tied, each_spans}
use Rattle.bk_scope.proofs.Lets.{OneTied, AllTied, let_told}
use Rattle.bk_scope.proofs.Constants.{constant_right, constant_tied, whole_spans}
use Rattle.bk_scope.proofs.Standing.{has_symbol, inside, most_spans, meaning_spans, manifest_spans, static_spans, global_spans, declared_inside, one_declared_inside, defined_inside, started_inside}
use Rattle.bk_scope.proofs.Expressions.{meant}

abbrev stage : List Binding → Found → Stage
stage bs f = record { scope = bs; found = f }

-- a constant of at most so much
most_tied : (q : Bool) (n l : ℕ) (w : Wrong) (f : Found) → Tied (cond q (at n l w) []) 0 f (cond q (breaks l w f) f)
most_tied true n l w f = broken n l f
most_tied false n l w f = nothing_told f

pub bounded_tied : (most : ℕ) (w : Wrong) (e : Expression) (bs : List Binding) (k : ℕ) (u : Spot) (f : Found)
    → Tied (constant bs k u e ++ at_most most u.place (at_expression e) w (constant_word bs e)) 0 f (bounded most (at_expression e) w (constant_word bs e) (constant_found bs k e f))
bounded_tied most w e bs k u f = by (constant_word bs e) refl where
  by : (y : Option ℕ) → constant_word bs e ≡ y → Tied (constant bs k u e ++ at_most most u.place (at_expression e) w y) 0 f (bounded most (at_expression e) w y (constant_found bs k e f))
  by None a = subst (λ xs. Tied xs 0 f (constant_found bs k e f)) (sym (append-nil (constant bs k u e))) (constant_tied e bs k u f)
  by (Some v) a =
      let same : constant bs k u e ≡ word v ∷ [] = ap (λ xs. xs ++ its_word (constant_word bs e)) (constant_right e bs k u v a) ∙ ap its_word a in
      let here : Spans u.place u.place (word v ∷ []) = record { inside = tt } in
      subst (λ xs. Tied (xs ++ at_most most u.place (at_expression e) w (Some v)) 0 f (bounded most (at_expression e) w (Some v) (constant_found bs k e f))) (sym same)
      (recount 0 (behind_it here (most_spans most u.place (at_expression e) w (Some v)) (omega arith) (subst (λ xs. Tied xs 0 f (constant_found bs k e f)) same (constant_tied e bs k u f)) (most_tied (nat_lt most v) u.place (at_expression e) w (constant_found bs k e f))) (omega arith))

pub bounded_spans : (most : ℕ) (w : Wrong) (e : Expression) (bs : List Binding) (k : ℕ) (u : Spot) → Spans u.place (u.place + symbols e) (constant bs k u e ++ at_most most u.place (at_expression e) w (constant_word bs e))
bounded_spans most w e bs k u =
    let one = has_symbol e in
    among (whole_spans e bs k u) (wider u.place (u.place + symbols e) (most_spans most u.place (at_expression e) w (constant_word bs e)) (omega arith) (omega (arith, one)))

-- an item's name and constant
item_tied : (m l : ℕ) (x : List ℕ) (e : Expression) (bs : List Binding) (k : ℕ) (s : Spot) (f : Found) → Tied (one_of m s.place l x ++ constant bs k (past 1 s) e) 0 f (constant_found bs k e (listed m l x f))
item_tied m l x e bs k s f = recount 0 (behind_it (one_spans m s.place l x) (whole_spans e bs k (past 1 s)) (omega arith) (listed_tied m s.place l x f) (constant_tied e bs k (past 1 s) (listed m l x f))) (omega arith)

item_spans : (m l : ℕ) (x : List ℕ) (e : Expression) (bs : List Binding) (k : ℕ) (s : Spot) → Spans s.place (s.place + 1 + symbols e) (one_of m s.place l x ++ constant bs k (past 1 s) e)
item_spans m l x e bs k s = both (one_spans m s.place l x) (whole_spans e bs k (past 1 s)) (omega arith) (omega arith)

-- MANIFEST
pub manifest_tied : (is : Items) (m : ℕ) (bs : List Binding) (k : ℕ) (s : Spot) (f : Found)
    → Tied (manifest_items m bs k s is) 0 f (manifests m k is (stage bs f)).found × ((manifests m k is (stage bs f)).scope ≡ manifests_in_scope bs is)
manifest_tied no_items m bs k s f = (nothing_told f, refl)
manifest_tied (item l x e is) m bs k s f =
    let g : Found = constant_found bs k e (listed m l x f) in
    let cs : List Binding = bind x (Constant (constant_word bs e)) bs in
    let u : Spot = after_constant e (past 1 s) in
    let r : Tied (manifest_items m cs k u is) 0 g (manifests m k is (stage cs g)).found × ((manifests m k is (stage cs g)).scope ≡ manifests_in_scope cs is) = manifest_tied is m cs k u g in
    (recount 0 (behind_it (item_spans m l x e bs k s) (manifest_spans is m cs k u) (omega arith) (item_tied m l x e bs k s f) r.0) (omega arith), r.1)

-- STATIC
pub static_tied : (is : Items) (m : ℕ) (bs : List Binding) (k : ℕ) (s : Spot) (cs : List Binding) (f : Found) → f.next ≡ s.number → s.number + numbers_items sort.Static is < 2 ^ 32
    → Tied (static_items m bs k s is) (numbers_items sort.Static is) f (statics bs m k is (stage cs f)).found × ((statics bs m k is (stage cs f)).scope ≡ statics_in_scope s.number is cs)
static_tied no_items m bs k s cs f a fits = (nothing_told f, refl)
static_tied (item l x e is) m bs k s cs f a fits =
    let g : Found = constant_found bs k e (listed m l x f) in
    let one : Tied (one_of m s.place l x ++ constant bs k (past 1 s) e) 0 f g = item_tied m l x e bs k s f in
    let same : g.next ≡ s.number = omega (arith, one.next, a) in
    let h : Found = means (Static s.number) g in
    let ds : List Binding = bind x (Static s.number) cs in
    let u : Spot = numbered 1 (after_constant e (past 1 s)) in
    let z : Spans (s.place + 1 + symbols e) (s.place + 1 + symbols e) (meaning (Static s.number) ∷ []) = meaning_spans (s.place + 1 + symbols e) (Some (Static s.number)) in
    let r : Tied (static_items m bs k u is) (numbers_items sort.Static is) (takes h) (statics bs m k is (stage ds (takes h))).found × ((statics bs m k is (stage ds (takes h))).scope ≡ statics_in_scope u.number is ds) = static_tied is m bs k u ds (takes h) (omega (arith, same, fits)) (omega (arith, fits)) in
    let head : Tied (one_of m s.place l x ++ constant bs k (past 1 s) e ++ (meaning (Static s.number) ∷ [])) 0 f h = recount 0 (behind_it (item_spans m l x e bs k s) z (omega arith) one (meant (Static s.number) g)) (omega arith) in
    let head_spans : Spans s.place (s.place + 1 + symbols e) (one_of m s.place l x ++ constant bs k (past 1 s) e ++ (meaning (Static s.number) ∷ [])) = both (item_spans m l x e bs k s) z (omega arith) (omega arith) in
    subst (λ n. Tied (static_items m bs k s (item l x e is)) (numbers_items sort.Static (item l x e is)) f (statics bs m k is (stage (bind x (Static n) cs) (takes (means (Static n) g)))).found
    × ((statics bs m k is (stage (bind x (Static n) cs) (takes (means (Static n) g)))).scope ≡ statics_in_scope s.number (item l x e is) cs)) (sym same)
    (recount _ (behind_it head_spans (static_spans is m bs k u) (omega arith) head (behind_it (no_span (s.place + 1 + symbols e)) (static_spans is m bs k u) (omega arith) (moved_tied 1 (takes h).next h (omega (arith, same, fits))) r.0)) (omega arith), r.1 ∙ ap (λ n. statics_in_scope n is ds) (omega arith))

-- GLOBAL
pub global_tied : (is : Items) (m : ℕ) (bs : List Binding) (k : ℕ) (s : Spot) (cs : List Binding) (f : Found)
    → Tied (global_items m bs k s is) 0 f (globals bs m k is (stage cs f)).found × ((globals bs m k is (stage cs f)).scope ≡ globals_in_scope bs is cs)
global_tied no_items m bs k s cs f = (nothing_told f, refl)
global_tied (item l x e is) m bs k s cs f =
    let w : Option ℕ = constant_word bs e in
    let v : Spot = past 1 s in
    let i : Found = listed m l x f in
    let g : Found = bounded GLOBAL_NUMBER (at_expression e) global_out_of_range w (constant_found bs k e i) in
    let ds : List Binding = bind x (Global (within GLOBAL_NUMBER w)) cs in
    let u : Spot = after_constant e v in
    let xs : List Point = constant bs k v e ++ at_most GLOBAL_NUMBER v.place (at_expression e) global_out_of_range w in
    let r : Tied (global_items m bs k u is) 0 g (globals bs m k is (stage ds g)).found × ((globals bs m k is (stage ds g)).scope ≡ globals_in_scope bs is ds) = global_tied is m bs k u ds g in
    let z : Spans s.place u.place (one_of m s.place l x ++ xs) = both (one_spans m s.place l x) (bounded_spans GLOBAL_NUMBER global_out_of_range e bs k v) (omega arith) (omega arith) in
    let one : Tied (one_of m s.place l x ++ xs) 0 f g = recount 0 (behind_it (one_spans m s.place l x) (bounded_spans GLOBAL_NUMBER global_out_of_range e bs k v) (omega arith) (listed_tied m s.place l x f) (bounded_tied GLOBAL_NUMBER global_out_of_range e bs k v i)) (omega arith) in (
      subst (λ ys. Tied (ys ++ global_items m bs k u is) 0 f (globals bs m k is (stage ds g)).found) (sym (append_assoc (one_of m s.place l x) (constant bs k v e) (at_most GLOBAL_NUMBER v.place (at_expression e) global_out_of_range w)))
          (recount 0 (behind_it z (global_spans is m bs k u) (omega arith) one r.0) (omega arith)),
      r.1,
    )

-- a declaration
pub record DeclarationTied (d : Declaration) : Type 0 where
  pub scope : (bs : List Binding) (p : Enclosing) (s : Spot) (f : Found) → f.next ≡ s.number → s.number + numbers_one_declared d < 2 ^ 32 → (one_declared bs p d f).scope ≡ scope_after_one bs p s d
  pub place : (bs : List Binding) (p : Enclosing) (s : Spot) (f : Found) → f.next ≡ s.number → s.number + numbers_one_declared d < 2 ^ 32 → (one_declared bs p d f).place ≡ place_after_one bs p s d
  pub found : (bs : List Binding) (p : Enclosing) (s : Spot) (f : Found) → f.next ≡ s.number → s.number + numbers_one_declared d < 2 ^ 32 → Tied (reported_one_declared bs p s d) (numbers_one_declared d) f (one_declared bs p d f).found

pub manifest_declared : (l : ℕ) (is : Items) → DeclarationTied (constants l sort.Manifest is)
manifest_declared l no_items = record { scope = λ bs p s f e fits. refl; place = λ bs p s f e fits. refl; found = λ bs p s f e fits. nothing_told f }
manifest_declared l (item m x c js) =
    let is : Items = item m x c js in
    record {
      scope = λ bs p s f e fits. (manifest_tied is f.next bs p.procedure s (takes f)).1;
      place = λ bs p s f e fits. refl;
      found = λ bs p s f e fits.
          subst (λ n. Tied (manifest_items s.number bs p.procedure (numbered 1 s) is) 1 f (manifests n p.procedure is (stage bs (takes f))).found) (sym e)
          (behind_it (no_span s.place) (manifest_spans is s.number bs p.procedure (numbered 1 s)) (omega arith) (moved_tied 1 (takes f).next f (omega (arith, e, fits))) ((manifest_tied is s.number bs p.procedure (numbered 1 s) (takes f)).0));
    }

pub static_declared : (l : ℕ) (is : Items) → DeclarationTied (constants l sort.Static is)
static_declared l no_items = record { scope = λ bs p s f e fits. refl; place = λ bs p s f e fits. refl; found = λ bs p s f e fits. nothing_told f }
static_declared l (item m x c js) =
    let is : Items = item m x c js in
    record {
      scope = λ bs p s f e fits. (static_tied is f.next bs p.procedure (numbered 1 s) bs (takes f) (omega (arith, e, fits)) (omega (arith, fits))).1;
      place = λ bs p s f e fits. refl;
      found = λ bs p s f e fits.
          subst (λ n. Tied (static_items s.number bs p.procedure (numbered 1 s) is) (1 + numbers_items sort.Static is) f (statics bs n p.procedure is (stage bs (takes f))).found) (sym e)
          (behind_it (no_span s.place) (static_spans is s.number bs p.procedure (numbered 1 s)) (omega arith) (moved_tied 1 (takes f).next f (omega (arith, e, fits))) ((static_tied is s.number bs p.procedure (numbered 1 s) bs (takes f) (omega (arith, e, fits)) (omega (arith, fits))).0));
    }

pub global_declared : (l : ℕ) (is : Items) → DeclarationTied (constants l sort.Global is)
global_declared l no_items = record { scope = λ bs p s f e fits. refl; place = λ bs p s f e fits. refl; found = λ bs p s f e fits. nothing_told f }
global_declared l (item m x c js) =
    let is : Items = item m x c js in
    record {
      scope = λ bs p s f e fits. (global_tied is f.next bs p.procedure s bs (takes f)).1;
      place = λ bs p s f e fits. refl;
      found = λ bs p s f e fits.
          subst (λ n. Tied (global_items s.number bs p.procedure (numbered 1 s) is) 1 f (globals bs n p.procedure is (stage bs (takes f))).found) (sym e)
          (behind_it (no_span s.place) (global_spans is s.number bs p.procedure (numbered 1 s)) (omega arith) (moved_tied 1 (takes f).next f (omega (arith, e, fits))) ((global_tied is s.number bs p.procedure (numbered 1 s) bs (takes f)).0));
    }

pub let_declared : (l : ℕ) (ds : Definitions) → AllTied ds → DeclarationTied (definitions l ds)
let_declared l no_definitions t = record { scope = λ bs p s f e fits. refl; place = λ bs p s f e fits. refl; found = λ bs p s f e fits. nothing_told f }
let_declared l (define x xs) t = record {
  scope = λ bs p s f e fits. (let_told l x xs t (defined_inside (define x xs)) bs p s f e fits).1;
  place = λ bs p s f e fits. (let_told l x xs t (defined_inside (define x xs)) bs p s f e fits).2;
  found = λ bs p s f e fits. (let_told l x xs t (defined_inside (define x xs)) bs p s f e fits).0;
}

-- declarations one behind another
pub no_declarations_tied : DsTied no_declarations
no_declarations_tied = record { scope = λ bs p s f e fits. refl; place = λ bs p s f e fits. refl; found = λ bs p s f e fits. nothing_told f }

pub declare_tied : (d : Declaration) (ds : Declarations) → DeclarationTied d → DsTied ds → DsTied (declare d ds)
declare_tied d ds t u = record { scope = λ bs p s f e fits. (whole bs p s f e fits).1; place = λ bs p s f e fits. (whole bs p s f e fits).2; found = λ bs p s f e fits. (whole bs p s f e fits).0 } where
  Whole : List Binding → Enclosing → Spot → Found → List Binding → Enclosing → Type 0
  Whole bs p s f cs z =
      let b : AfterDeclarations = declared cs z ds (one_declared bs p d f).found in
      Tied (reported_declared bs p s (declare d ds)) (numbers_declared (declare d ds)) f b.found × (b.scope ≡ scope_after bs p s (declare d ds)) × (b.place ≡ place_after_all bs p s (declare d ds))

  whole : (bs : List Binding) (p : Enclosing) (s : Spot) (f : Found) → f.next ≡ s.number → s.number + numbers_declared (declare d ds) < 2 ^ 32 → Whole bs p s f (one_declared bs p d f).scope (one_declared bs p d f).place
  whole bs p s f e fits =
      let g : Found = (one_declared bs p d f).found in
      let cs : List Binding = scope_after_one bs p s d in
      let z : Enclosing = place_after_one bs p s d in
      let v : Spot = after_one_declared d s in
      let one : Tied (reported_one_declared bs p s d) (numbers_one_declared d) f g = t.found bs p s f e (omega (arith, fits)) in
      let same : g.next ≡ v.number = omega (arith, one.next, e) in
      let rest : v.number + numbers_declared ds < 2 ^ 32 = omega (arith, fits) in
      let here : Whole bs p s f cs z = (behind_it (one_declared_inside d bs p s) (declared_inside ds cs z v) (omega arith) one (u.found cs z v g same rest), u.scope cs z v g same rest, u.place cs z v g same rest) in
      subst (λ xs. Whole bs p s f xs (one_declared bs p d f).place) (sym (t.scope bs p s f e (omega (arith, fits)))) (subst (λ (y : Enclosing). Whole bs p s f cs y) (sym (t.place bs p s f e (omega (arith, fits)))) here)

-- what variables begin with
abbrev pub StartsTied : Starts → Type 0
StartsTied is = (bs : List Binding) (p : Enclosing) (s : Spot) (f : Found) → f.next ≡ s.number → s.number + numbers_started is < 2 ^ 32 → Tied (reported_started bs p s is) (numbers_started is) f (started bs p is f)

pub no_starts_tied : StartsTied no_starts
no_starts_tied bs p s f e fits = nothing_told f

pub value_start_tied : (e : Expression) (is : Starts) → ETied e → StartsTied is → StartsTied (value e is)
value_start_tied e is t u bs p s f a fits =
    let one : Tied (reported Value bs p s e) (numbers e) f (evaluated Value bs p e f) = t Value tt bs p s f a (omega (arith, fits)) in
    behind_it (inside e Value bs p s) (started_inside is bs (deeper 1 p) (following e s)) (omega arith) one (u bs (deeper 1 p) (following e s) (evaluated Value bs p e f) (omega (arith, one.next, a)) (omega (arith, fits)))

pub vector_start_tied : (l : ℕ) (e : Expression) (is : Starts) → StartsTied is → StartsTied (vector l e is)
vector_start_tied l e is u bs p s f a fits =
    let w : ℕ = words_of_start bs e in
    let g : Found = bounded VEC_NUMBER (at_expression e) vec_out_of_range (constant_word bs e) (constant_found bs p.procedure e f) in
    let v : Spot = after_constant e s in
    let q : Enclosing = deeper (w + 1) p in
    let xs : List Point = constant bs p.procedure s e ++ at_most VEC_NUMBER s.place (at_expression e) vec_out_of_range (constant_word bs e) in
    let xs_spans : Spans s.place v.place xs = bounded_spans VEC_NUMBER vec_out_of_range e bs p.procedure s in
    let one : Tied (xs ++ pushed p (w + 1)) (0 + 0) f (reaches (p.depth + (w + 1)) g) =
    behind_it xs_spans (pushed_spans v.place p (w + 1)) (omega arith) (bounded_tied VEC_NUMBER vec_out_of_range e bs p.procedure s f) (pushed_tied p (w + 1) g) in
    let two : Tied (reported_started bs q v is) (numbers_started is) (reaches (p.depth + (w + 1)) g) (started bs q is (reaches (p.depth + (w + 1)) g)) = u bs q v (reaches (p.depth + (w + 1)) g) (omega (arith, one.next, a)) (omega (arith, fits)) in
    subst (λ d. Tied (reported_started bs p s (vector l e is)) (numbers_started is) f (started bs q is (reaches d g))) (omega arith)
    (recount (numbers_started is) (behind_it (both xs_spans (pushed_spans v.place p (w + 1)) (omega arith) (omega arith)) (started_inside is bs q v) (omega arith) one two) (omega arith))

-- the definition of some variables
pub variables_tied : (l : ℕ) (xs : List Mention) (is : Starts) → StartsTied is → OneTied (variables l xs is)
variables_tied l xs is t = record {
  fresh = λ m bs p zs f. refl;
  place = λ m bs p zs f. refl;
  found = λ m bs p s zs f e fits.
      let g : Found = all_listed m xs f in
      let one : Tied (each_of m s.place xs) 0 f g = each_tied m s.place xs f in
      recount (numbers_started is) (behind_it (each_spans m s.place xs) (started_inside is bs p (past (length xs) s)) (omega arith) one (t bs p (past (length xs) s) g (omega (arith, one.next, e)) (omega (arith, fits)))) (omega arith);
}
