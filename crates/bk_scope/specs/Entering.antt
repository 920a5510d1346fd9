-- Names that come into scope together: the labels of some commands, the formals of a procedure, the procedures of a LET.
use Rattle.std.specs.Prelude.{ℕ, ◌+◌, cond, List, [], ◌∷◌, ◌++◌}
use Rattle.bk_tree.specs.Tree.{Mention, Command, Commands, Definitions, label, case_of, default, when, test, while, switch, block, repeat, repeat_while, no_commands, also, no_declarations, routine, function, variables, no_definitions, define}
use Rattle.bk_scope.specs.declared.bound.Bound.TheVariants.{Static, Variable, Label}
use Rattle.bk_scope.specs.Scope.{Binding, bound_in, bind, is_global}
use Rattle.bk_scope.specs.Places.{kept}
use Rattle.bk_scope.specs.Found.{Found, takes}

-- the declarations in scope, and what was found
pub record Stage : Type 0 where
  pub scope : List Binding
  pub found : Found

-- the labels that belong to the same commands as this one, in the source's order: a block with declarations, the body of a
-- FOR and of a VALOF have their own
abbrev mutual
  pub labels_of : Command → List (List ℕ)
  labels_of (label l x c) = x ∷ labels_of c
  labels_of (case_of l e c) = labels_of c
  labels_of (default l c) = labels_of c
  labels_of (when l b e c) = labels_of c
  labels_of (test l e a b) = labels_of a ++ labels_of b
  labels_of (while l b e c) = labels_of c
  labels_of (switch l e c) = labels_of c
  labels_of (block l no_declarations cs) = labels_of_each cs
  labels_of (repeat l c) = labels_of c
  labels_of (repeat_while l b c e) = labels_of c
  labels_of _ = []

  pub labels_of_each : Commands → List (List ℕ)
  labels_of_each no_commands = []
  labels_of_each (also c cs) = labels_of c ++ labels_of_each cs

-- labels of procedure k; each takes a number
abbrev pub with_labels : ℕ → List (List ℕ) → Stage → Stage
with_labels k [] s = s
with_labels k (x ∷ xs) s = with_labels k xs (record { scope = bind x (Label k s.found.next) s.scope; found = takes s.found })

-- formals of procedure k, with places from d on
abbrev pub with_formals : ℕ → ℕ → List Mention → List Binding → List Binding
with_formals k d [] bs = bs
with_formals k d (x ∷ xs) bs = with_formals k (kept (d + 1)) xs (bind x.letters (Variable k d) bs)

-- A procedure, which takes a number. Where its name means a global, it goes on to mean it; else it is a static word.
abbrev pub with_procedure : List ℕ → Stage → Stage
with_procedure x s = record { scope = cond (is_global (bound_in s.scope x)) s.scope (bind x (Static s.found.next) s.scope); found = takes s.found }

abbrev pub with_procedures : Definitions → Stage → Stage
with_procedures no_definitions s = s
with_procedures (define (routine l x fs c) ds) s = with_procedures ds (with_procedure x s)
with_procedures (define (function l x fs e) ds) s = with_procedures ds (with_procedure x s)
with_procedures (define (variables l xs is) ds) s = with_procedures ds s
