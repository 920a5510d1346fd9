-- Names that come into scope: one more, and the labels of a scope.
use Rattle.bk_simulation.proofs.Situations.{by_test, not_true, Exits, Scene, owning, place_of, NameAt, IsWord, NamedIn, ◌≡◌, ℕ, ◌+◌, Bool, true, false, cond, List, [], ◌∷◌, ◌++◌, Option, Some, refl, sym, ap, ◌∙◌, subst, bytes_eq, bytes_eq-Decides, Command, Commands, Bound, Binding, bound_in, bind as bind_bound, labels_of, labels_of_each, labels_in_scope, meant, variable, Environment, Sense, constant, cell, label, sense_in, bind_each, the_label, has_place, one_has_place, Around, or_parts}
use Rattle.bk_tree.specs.Tree as t
use Rattle.bk_scope.specs.declared.bound.Bound.TheVariants.{Label}
use Rattle.bk_meaning.specs.Environment.{bind}

abbrev pub binding_here : List Binding → Scene → Scene
binding_here bs sc = record sc { bindings = bs }

-- where a name is bound as before
pub name_with : (sc : Scene) (bs : List Binding) (bases : List ℕ) (frame : ℕ) (x : List ℕ) (s : Option Sense) → bound_in bs x ≡ bound_in sc.bindings x → NameAt sc bases frame x s → NameAt (binding_here bs sc) bases frame x s
name_with sc bs bases frame x (Some (constant n)) e h = (e ∙ h.0, h.1)
name_with sc bs bases frame x (Some (cell o i)) e h =
    (h.0, h.1, h.2, h.3 ∙ ap (λ y. place_of sc.own frame (variable sc.targets (meant y))) (sym e), subst (λ y. IsWord y) (sym e) h.4)
name_with sc bs bases frame x _ e h = tt

-- a name more
pub bound_named : (sc : Scene) (env : Environment) (bases : List ℕ) (frame : ℕ) (x : List ℕ) (k : Bound) (s : Sense) → NameAt (binding_here (bind_bound x k sc.bindings) sc) bases frame x (Some s) → NamedIn sc env bases frame
    → NamedIn (binding_here (bind_bound x k sc.bindings) sc) (bind x s env) bases frame
bound_named sc env bases frame x k s here n = record {
  each = λ y. by_test (bytes_eq x y)
      (λ (h : bytes_eq x y ≡ true). subst (λ (q : Bool). NameAt (binding_here (bind_bound x k sc.bindings) sc) bases frame y (cond q (Some s) (sense_in env.names y))) (sym h)
      (subst (λ u. NameAt (binding_here (bind_bound x k sc.bindings) sc) bases frame u (Some s)) ((bytes_eq-Decides x y).0 h) here))
      (λ (h : bytes_eq x y ≡ false). subst (λ (q : Bool). NameAt (binding_here (bind_bound x k sc.bindings) sc) bases frame y (cond q (Some s) (sense_in env.names y))) (sym h)
      (name_with sc (bind_bound x k sc.bindings) bases frame y (sense_in env.names y) (ap (λ (q : Bool). cond q (Some k) (bound_in sc.bindings y)) h) (n.each y)));
}

-- the labels of a scope
pub labels_named : (xs : List (List ℕ)) (sc : Scene) (env : Environment) (bases : List ℕ) (frame j : ℕ) → NamedIn sc env bases frame → NamedIn (binding_here (labels_in_scope sc.procedure j xs sc.bindings) sc) (bind_each xs label env) bases frame
labels_named [] sc env bases frame j n = n
labels_named (x ∷ xs) sc env bases frame j n =
    labels_named xs (binding_here (bind_bound x (Label sc.procedure j) sc.bindings) sc) (bind x label env) bases frame (j + 1) (bound_named sc env bases frame x (Label sc.procedure j) label tt n)

-- none of these is the name
abbrev Absent : List ℕ → List (List ℕ) → Type 0
Absent y [] = Unit {0}
Absent y (x ∷ xs) = (bytes_eq x y ≡ false) × Absent y xs

absent_both : (y : List ℕ) (xs ys : List (List ℕ)) → Absent y xs → Absent y ys → Absent y (xs ++ ys)
absent_both y [] ys a b = b
absent_both y (x ∷ xs) ys a b = (a.0, absent_both y xs ys a.1 b)

other_evaluation : (x y : List ℕ) → bytes_eq y x ≡ false → bytes_eq x y ≡ false
other_evaluation x y e = by_test (bytes_eq x y)
    (λ (h : bytes_eq x y ≡ true). not_true (sym e ∙ (bytes_eq-Decides y x).1 (sym ((bytes_eq-Decides x y).0 h))))
    (λ (h : bytes_eq x y ≡ false). h)

-- a label that does not stand there is none of the scope's
mutual
  absent_in : (y : List ℕ) (env : Environment) (c : Command) → has_place (the_label y) env c ≡ false → Absent y (labels_of c)
  absent_in y env (t.label l x c) h = (other_evaluation x y (or_parts (bytes_eq y x) (has_place (the_label y) env c) h).0, absent_in y env c (or_parts (bytes_eq y x) (has_place (the_label y) env c) h).1)
  absent_in y env (t.case_of l e c) h = absent_in y env c h
  absent_in y env (t.default l c) h = absent_in y env c h
  absent_in y env (t.when l b e c) h = absent_in y env c h
  absent_in y env (t.test l e a b) h =
      absent_both y (labels_of a) (labels_of b) (absent_in y env a (or_parts (has_place (the_label y) env a) (has_place (the_label y) env b) h).0) (absent_in y env b (or_parts (has_place (the_label y) env a) (has_place (the_label y) env b) h).1)
  absent_in y env (t.while l b e c) h = absent_in y env c h
  absent_in y env (t.switch l e c) h = absent_in y env c h
  absent_in y env (t.block l t.no_declarations cs) h = absent_in_each y env cs h
  absent_in y env (t.repeat l c) h = absent_in y env c h
  absent_in y env (t.repeat_while l b c e) h = absent_in y env c h
  absent_in y env _ h = tt

  absent_in_each : (y : List ℕ) (env : Environment) (cs : Commands) → one_has_place (the_label y) env cs ≡ false → Absent y (labels_of_each cs)
  absent_in_each y env t.no_commands h = tt
  absent_in_each y env (t.also c cs) h =
      absent_both y (labels_of c) (labels_of_each cs) (absent_in y env c (or_parts (has_place (the_label y) env c) (one_has_place (the_label y) env cs) h).0)
      (absent_in_each y env cs (or_parts (has_place (the_label y) env c) (one_has_place (the_label y) env cs) h).1)

bound_past : (y : List ℕ) (xs : List (List ℕ)) (k j : ℕ) (bs : List Binding) → Absent y xs → bound_in (labels_in_scope k j xs bs) y ≡ bound_in bs y
bound_past y [] k j bs a = refl
bound_past y (x ∷ xs) k j bs a = bound_past y xs k (j + 1) (bind_bound x (Label k j) bs) a.1 ∙ ap (λ (q : Bool). cond q (Some (Label k j)) (bound_in bs y)) a.0

-- so it means outside what it means in the scope
pub not_owned : (y : List ℕ) (cs : Commands) (env : Environment) (sc : Scene) (j : ℕ) → one_has_place (the_label y) env cs ≡ false → bound_in (owning j cs sc).bindings y ≡ bound_in sc.bindings y
not_owned y cs env sc j h = bound_past y (labels_of_each cs) sc.procedure j sc.bindings (absent_in_each y env cs h)

-- what stands around code binds no name
name_around : (sc : Scene) (a : Around) (e : Exits) (bases : List ℕ) (frame : ℕ) (x : List ℕ) (s : Option Sense) → NameAt sc bases frame x s → NameAt (record sc { around = a; exits = e }) bases frame x s
name_around sc a e bases frame x (Some (constant n)) h = h
name_around sc a e bases frame x (Some (cell o i)) h = h
name_around sc a e bases frame x _ h = tt

pub around_named : (sc : Scene) (a : Around) (e : Exits) (env : Environment) (bases : List ℕ) (frame : ℕ) → NamedIn sc env bases frame → NamedIn (record sc { around = a; exits = e }) env bases frame
around_named sc a e env bases frame n = record { each = λ x. name_around sc a e bases frame x (sense_in env.names x) (n.each x) }
