-- What stands behind a declaration and a definition.
use Rattle.bk_scope.proofs.Terms.{◌≡◌, ℕ, ◌<◌, List, [], ◌∷◌, ◌++◌, length, Result, Ok, Err, OnOk, IfOk, refl, arith, Def, ConstItem, ConstItem as i, Sort, Sort as s, Mention, constants, definitions, items_in, definitions_in, Starts, no_starts, variables, Enclosing, Binding, bind_all, Found, takes, Stage, with_procedures, AfterDeclarations, Defined, manifests, statics, globals, variables_of, all_listed, started, place_after, defined, one_declared, one_defined}
use Rattle.std.specs.declared.alloc.AllocError.{AllocError}

-- what stands behind a declaration that leaves the place as it was
abbrev pub at : Enclosing → Stage → AfterDeclarations
at p t = record { scope = t.scope; place = p; found = t.found }

-- no starts make no variables
pub no_variables : (bs : List Binding) (p : Enclosing) (xs : List Mention) → variables_of bs p xs no_starts ≡ []
no_variables bs p [] = refl
no_variables bs p (x ∷ xs) = refl

-- what stands behind a declaration of nothing
pub no_items_behind : (bs : List Binding) (p : Enclosing) (f : Found) (l : ℕ) (w : Sort) (xs : List ConstItem) → length xs ≡ 0 → ◌≡◌ {A = AfterDeclarations} (record { scope = bs; place = p; found = f }) (one_declared bs p (constants l w (items_in xs)) f)
no_items_behind bs p f l w [] none = refl
no_items_behind bs p f l w (x ∷ xs) none = absurd (omega (arith, none))

pub no_definitions_behind : (bs : List Binding) (p : Enclosing) (f : Found) (l : ℕ) (xs : List Def) → length xs ≡ 0 → ◌≡◌ {A = AfterDeclarations} (record { scope = bs; place = p; found = f }) (one_declared bs p (definitions l (definitions_in xs)) f)
no_definitions_behind bs p f l [] none = refl
no_definitions_behind bs p f l (x ∷ xs) none = absurd (omega (arith, none))

-- what stands behind some items
pub manifests_behind : (bs : List Binding) (p : Enclosing) (f : Found) (l : ℕ) (xs : List ConstItem) → 0 < length xs → at p (manifests f.next p.procedure (items_in xs) (record { scope = bs; found = takes f })) ≡ one_declared bs p (constants l s.Manifest (items_in xs)) f
manifests_behind bs p f l [] some = absurd (omega (arith, some))
manifests_behind bs p f l ((i.Item m x e) ∷ xs) some = refl

pub statics_behind : (bs : List Binding) (p : Enclosing) (f : Found) (l : ℕ) (xs : List ConstItem) → 0 < length xs → at p (statics bs f.next p.procedure (items_in xs) (record { scope = bs; found = takes f })) ≡ one_declared bs p (constants l s.Static (items_in xs)) f
statics_behind bs p f l [] some = absurd (omega (arith, some))
statics_behind bs p f l ((i.Item m x e) ∷ xs) some = refl

pub globals_behind : (bs : List Binding) (p : Enclosing) (f : Found) (l : ℕ) (xs : List ConstItem) → 0 < length xs → at p (globals bs f.next p.procedure (items_in xs) (record { scope = bs; found = takes f })) ≡ one_declared bs p (constants l s.Global (items_in xs)) f
globals_behind bs p f l [] some = absurd (omega (arith, some))
globals_behind bs p f l ((i.Item m x e) ∷ xs) some = refl

-- what stands behind a LET, by what its procedures and its definitions made
pub let_behind : (bs : List Binding) (p : Enclosing) (f : Found) (l : ℕ) (xs : List Def) (t : Stage) (d : Defined) (cs : List Binding) (q : Enclosing) (g : Found) → 0 < length xs
    → t ≡ with_procedures (definitions_in xs) (record { scope = bs; found = takes f })
    → d ≡ defined f.next t.scope (definitions_in xs) (record { fresh = []; place = p; found = t.found })
    → cs ≡ bind_all d.fresh t.scope → q ≡ d.place → g ≡ d.found
    → ◌≡◌ {A = AfterDeclarations} (record { scope = cs; place = q; found = g }) (one_declared bs p (definitions l (definitions_in xs)) f)
let_behind bs p f l [] t d cs q g some et ed ec eq eg = absurd (omega (arith, some))
let_behind bs p f l (x ∷ xs) t d cs q g some et ed ec eq eg = rw ec (rw eq (rw eg (rw ed (rw et refl))))

-- what stands behind the definition of some variables, by what their names and starts made
pub variables_behind : (n : ℕ) (bs : List Binding) (d : Defined) (l : ℕ) (xs : List Mention) (is : Starts) (r : Result Enclosing AllocError) (gs : List Binding) (h : Found)
    (cs : List Binding) (ys : List Mention) (js : Starts) (f : Found)
    → cs ≡ bs → ys ≡ xs → js ≡ is → f ≡ all_listed n xs d.found
    → OnOk r (gs ≡ d.fresh ++ variables_of cs d.place ys js) → OnOk r (h ≡ started cs d.place js f) → IfOk r (λ p. p ≡ place_after cs d.place js)
    → IfOk r (λ p. ◌≡◌ {A = Defined} (record { fresh = gs; place = p; found = h }) (one_defined n bs (variables l xs is) d))
variables_behind n bs d l xs is (Ok p) gs h cs ys js f ec ey ej ef eg eh ep = rw eg (rw eh (rw ep (rw ec (rw ey (rw ej (rw ef refl))))))
variables_behind n bs d l xs is (Err e) gs h cs ys js f ec ey ej ef eg eh ep = tt
