-- The constants in scope are words where a section's tree is regular.
use Rattle.bk_filters.proofs.Terms.{◌≡◌, ℕ, ◌+◌, ◌<◌, ◌^◌, Bool, true, false, List, [], ◌∷◌, ◌++◌, Option, Some, None, cond, refl, subst, Mention, Expression, Declaration, Declarations, Items, Definitions, Starts, Bound, Enclosing, Binding, bound_in, bind, bind_all, is_global, constant_word, with_formals, words_of_start, place_after, variables_of, labels_in_scope, procedure_in_scope, procedures_in_scope, variables_in_scope, manifests_in_scope, statics_in_scope, globals_in_scope, scope_after_one, place_after_one, scope_after, Regular, RegularItems, RegularDeclaration, RegularDeclarations, Sort as sort, Bound as b, kept, deeper}
use Rattle.std.specs.Str.{bytes_eq}
use Rattle.bk_tree.specs.Tree as t
use Rattle.bk_scope.specs.Spots.{Spot, after_one_declared}
use Rattle.bk_simulation.proofs.Lemmas.{HasWords, constant_small}

-- a constant is a word
abbrev IsFit : Bound → Type 0
IsFit (b.Constant (Some v)) = v < 2 ^ 32
IsFit _ = Unit {0}

abbrev pub Fit : List Binding → Type 0
Fit [] = Unit {0}
Fit (x ∷ xs) = IsFit x.bound × Fit xs

fit_words : (bs : List Binding) → Fit bs → HasWords bs
fit_words [] h x v e = absurd cc
fit_words (y ∷ bs) h x v e = picked (bytes_eq y.name x) (fit_words bs h.1 x v) e
  where
    picked : (p : Bool) → (bound_in bs x ≡ Some (b.Constant (Some v)) → v < 2 ^ 32) → cond p (Some y.bound) (bound_in bs x) ≡ Some (b.Constant (Some v)) → v < 2 ^ 32
    picked true f e = let same : y.bound ≡ b.Constant (Some v) = cc in subst IsFit same h.0
    picked false f e = f e

fit_word : (o : Option ℕ) → ((v : ℕ) → o ≡ Some v → v < 2 ^ 32) → IsFit (b.Constant o)
fit_word None f = tt
fit_word (Some v) f = f v refl

pub fit_constant : (bs : List Binding) (e : Expression) → Fit bs → Regular e → (v : ℕ) → constant_word bs e ≡ Some v → v < 2 ^ 32
fit_constant bs e h r = constant_small bs (fit_words bs h) e r

-- with one more of MANIFEST
pub fit_manifest : (x : List ℕ) (bs : List Binding) (e : Expression) → Fit bs → Regular e → Fit (bind x (b.Constant (constant_word bs e)) bs)
fit_manifest x bs e h r = (fit_word (constant_word bs e) (fit_constant bs e h r), h)

pub fit_labels : (k n : ℕ) (xs : List (List ℕ)) (bs : List Binding) → Fit bs → Fit (labels_in_scope k n xs bs)
fit_labels k n [] bs h = h
fit_labels k n (x ∷ xs) bs h = fit_labels k (n + 1) xs (bind x (b.Label k n) bs) (tt, h)

pub fit_formals : (k d : ℕ) (xs : List Mention) (bs : List Binding) → Fit bs → Fit (with_formals k d xs bs)
fit_formals k d [] bs h = h
fit_formals k d (x ∷ xs) bs h = fit_formals k (kept (d + 1)) xs (bind x.letters (b.Variable k d) bs) (tt, h)

fit_procedure : (n : ℕ) (x : List ℕ) (bs : List Binding) → Fit bs → Fit (procedure_in_scope n x bs)
fit_procedure n x bs h = by_global (is_global (bound_in bs x))
  where
    by_global : (p : Bool) → Fit (cond p bs (bind x (b.Static n) bs))
    by_global true = h
    by_global false = (tt, h)

pub fit_procedures : (n : ℕ) (ds : Definitions) (bs : List Binding) → Fit bs → Fit (procedures_in_scope n ds bs)
fit_procedures n t.no_definitions bs h = h
fit_procedures n (t.define (t.routine l x fs c) ds) bs h = fit_procedures (n + 1) ds (procedure_in_scope n x bs) (fit_procedure n x bs h)
fit_procedures n (t.define (t.function l x fs e) ds) bs h = fit_procedures (n + 1) ds (procedure_in_scope n x bs) (fit_procedure n x bs h)
fit_procedures n (t.define (t.variables l xs is) ds) bs h = fit_procedures n ds bs h

fit_both : (xs ys : List Binding) → Fit xs → Fit ys → Fit (xs ++ ys)
fit_both [] ys h i = i
fit_both (x ∷ xs) ys h i = (h.0, fit_both xs ys h.1 i)

fit_all : (xs bs : List Binding) → Fit xs → Fit bs → Fit (bind_all xs bs)
fit_all [] bs h i = i
fit_all (x ∷ xs) bs h i = fit_all xs (x ∷ bs) h.1 (h.0, i)

fit_variables : (bs : List Binding) (p : Enclosing) (xs : List Mention) (is : Starts) → Fit (variables_of bs p xs is)
fit_variables bs p (x ∷ xs) (t.value e is) = (tt, fit_variables bs (deeper 1 p) xs is)
fit_variables bs p (x ∷ xs) (t.vector l e is) = (tt, fit_variables bs (deeper (words_of_start bs e + 1) p) xs is)
fit_variables bs p (x ∷ xs) t.no_starts = tt
fit_variables bs p [] is = tt

fit_defined : (bs : List Binding) (p : Enclosing) (ds : Definitions) → Fit (variables_in_scope bs p ds)
fit_defined bs p t.no_definitions = tt
fit_defined bs p (t.define (t.variables l xs is) ds) = fit_both (variables_of bs p xs is) (variables_in_scope bs (place_after bs p is) ds) (fit_variables bs p xs is) (fit_defined bs (place_after bs p is) ds)
fit_defined bs p (t.define (t.routine l x fs c) ds) = fit_defined bs p ds
fit_defined bs p (t.define (t.function l x fs e) ds) = fit_defined bs p ds

fit_manifests : (bs : List Binding) (is : Items) → Fit bs → RegularItems is → Fit (manifests_in_scope bs is)
fit_manifests bs t.no_items h r = h
fit_manifests bs (t.item l x e is) h r =
    fit_manifests (bind x (b.Constant (constant_word bs e)) bs) is (fit_manifest x bs e h r.0) r.1

fit_statics : (n : ℕ) (is : Items) (bs : List Binding) → Fit bs → Fit (statics_in_scope n is bs)
fit_statics n t.no_items bs h = h
fit_statics n (t.item l x e is) bs h = fit_statics (n + 1) is (bind x (b.Static n) bs) (tt, h)

fit_globals : (os : List Binding) (is : Items) (bs : List Binding) → Fit bs → Fit (globals_in_scope os is bs)
fit_globals os t.no_items bs h = h
fit_globals os (t.item l x e is) bs h = fit_globals os is _ (tt, h)

pub fit_one : (bs : List Binding) (p : Enclosing) (s : Spot) (d : Declaration) → Fit bs → RegularDeclaration d → Fit (scope_after_one bs p s d)
fit_one bs p s (t.constants l sort.Manifest is) h r = fit_manifests bs is h r
fit_one bs p s (t.constants l sort.Static is) h r = fit_statics (s.number + 1) is bs h
fit_one bs p s (t.constants l sort.Global is) h r = fit_globals bs is bs h
fit_one bs p s (t.definitions l ds) h r =
    let cs : List Binding = procedures_in_scope (s.number + 1) ds bs in
    fit_all (variables_in_scope cs p ds) cs (fit_defined cs p ds) (fit_procedures (s.number + 1) ds bs h)

pub fit_declared : (bs : List Binding) (p : Enclosing) (s : Spot) (ds : Declarations) → Fit bs → RegularDeclarations ds → Fit (scope_after bs p s ds)
fit_declared bs p s t.no_declarations h r = h
fit_declared bs p s (t.declare d ds) h r = fit_declared (scope_after_one bs p s d) (place_after_one bs p s d) (after_one_declared d s) ds (fit_one bs p s d h r.0) r.1
