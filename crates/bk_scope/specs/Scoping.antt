-- What comes into scope.
use Rattle.std.specs.Prelude.{ℕ, ◌+◌, cond, List, [], ◌∷◌, ◌++◌}
use Rattle.bk_base.specs.declared.limit.TheConstants.{GLOBAL_NUMBER}
use Rattle.bk_tree.specs.declared.tree.Sort.TheVariants as o
use Rattle.bk_tree.specs.Tree.{Declaration, Declarations, Items, Definition, Definitions, constants, definitions, no_declarations, declare, no_items, item, routine, function, variables, no_definitions, define}
use Rattle.bk_scope.specs.declared.bound.Bound.TheVariants.{Constant, Global, Static, Label}
use Rattle.bk_scope.specs.declared.place.Enclosing.{Enclosing}
use Rattle.bk_scope.specs.Scope.{Binding, bound_in, bind, bind_all, is_global}
use Rattle.bk_scope.specs.Constants.{constant_word}
use Rattle.bk_scope.specs.Names.{within, variables_of, place_after}
use Rattle.bk_scope.specs.Spots.{Spot, after_one_declared}

-- labels of procedure k, with numbers from n on
abbrev pub labels_in_scope : ℕ → ℕ → List (List ℕ) → List Binding → List Binding
labels_in_scope k n [] bs = bs
labels_in_scope k n (x ∷ xs) bs = labels_in_scope k (n + 1) xs (bind x (Label k n) bs)

-- a procedure whose name means a global goes on to mean it, else it is a static word
abbrev pub procedure_in_scope : ℕ → List ℕ → List Binding → List Binding
procedure_in_scope n x bs = cond (is_global (bound_in bs x)) bs (bind x (Static n) bs)

abbrev pub procedures_in_scope : ℕ → Definitions → List Binding → List Binding
procedures_in_scope n no_definitions bs = bs
procedures_in_scope n (define (routine l x fs c) ds) bs = procedures_in_scope (n + 1) ds (procedure_in_scope n x bs)
procedures_in_scope n (define (function l x fs e) ds) bs = procedures_in_scope (n + 1) ds (procedure_in_scope n x bs)
procedures_in_scope n (define (variables l xs is) ds) bs = procedures_in_scope n ds bs

-- where the frame goes on after a definition, and after those of a LET
abbrev pub place_after_one_defined : List Binding → Enclosing → Definition → Enclosing
place_after_one_defined bs p (variables l xs is) = place_after bs p is
place_after_one_defined bs p _ = p

abbrev pub place_after_defined : List Binding → Enclosing → Definitions → Enclosing
place_after_defined bs p no_definitions = p
place_after_defined bs p (define d ds) = place_after_defined bs (place_after_one_defined bs p d) ds

-- the variables of a LET, which come into scope after all of it

abbrev pub variables_in_scope : List Binding → Enclosing → Definitions → List Binding
variables_in_scope bs p no_definitions = []
variables_in_scope bs p (define (variables l xs is) ds) = variables_of bs p xs is ++ variables_in_scope bs (place_after bs p is) ds
variables_in_scope bs p (define d ds) = variables_in_scope bs p ds

-- items: those of MANIFEST see the earlier ones
abbrev pub manifests_in_scope : List Binding → Items → List Binding
manifests_in_scope bs no_items = bs
manifests_in_scope bs (item l x e is) = manifests_in_scope (bind x (Constant (constant_word bs e)) bs) is

abbrev pub statics_in_scope : ℕ → Items → List Binding → List Binding
statics_in_scope n no_items bs = bs
statics_in_scope n (item l x e is) bs = statics_in_scope (n + 1) is (bind x (Static n) bs)

-- their numbers by what is in scope outside
abbrev pub globals_in_scope : List Binding → Items → List Binding → List Binding
globals_in_scope os no_items bs = bs
globals_in_scope os (item l x e is) bs = globals_in_scope os is (bind x (Global (within GLOBAL_NUMBER (constant_word os e))) bs)

-- after a declaration: what is in scope, and where the frame goes on
abbrev pub scope_after_one : List Binding → Enclosing → Spot → Declaration → List Binding
scope_after_one bs p s (constants l o.Manifest is) = manifests_in_scope bs is
scope_after_one bs p s (constants l o.Static is) = statics_in_scope (s.number + 1) is bs
scope_after_one bs p s (constants l o.Global is) = globals_in_scope bs is bs
scope_after_one bs p s (definitions l ds) =
    let cs : List Binding = procedures_in_scope (s.number + 1) ds bs in
    bind_all (variables_in_scope cs p ds) cs

abbrev pub place_after_one : List Binding → Enclosing → Spot → Declaration → Enclosing
place_after_one bs p s (constants l q is) = p
place_after_one bs p s (definitions l ds) = place_after_defined (procedures_in_scope (s.number + 1) ds bs) p ds

abbrev pub scope_after : List Binding → Enclosing → Spot → Declarations → List Binding
scope_after bs p s no_declarations = bs
scope_after bs p s (declare d ds) = scope_after (scope_after_one bs p s d) (place_after_one bs p s d) (after_one_declared d s) ds

abbrev pub place_after_all : List Binding → Enclosing → Spot → Declarations → Enclosing
place_after_all bs p s no_declarations = p
place_after_all bs p s (declare d ds) = place_after_all (scope_after_one bs p s d) (place_after_one bs p s d) (after_one_declared d s) ds
