-- What seeking finds does not hang on the numbers of objects, and for labels not on names.
use Rattle.bk_simulation.proofs.Words.{◌≡◌, ℕ, false, ◌||◌, cond, List, refl, ap, ◌∙◌, prefix_word, infix_word, Expression, Command, Commands, Named, Environment, constant_in, Sought, the_label, the_case, the_default, same_place, is_label, has_place, one_has_place, option_and_then}
use Rattle.bk_tree.specs.Tree as t

abbrev pub with_names : List Named → ℕ → Environment
with_names ns n = record { names = ns; next = n }

pub same_constant : (ns : List Named) (i j : ℕ) (e : Expression) → constant_in (with_names ns i) e ≡ constant_in (with_names ns j) e
same_constant ns i j (t.parens l e) = same_constant ns i j e
same_constant ns i j (t.unary l q e) = ap (λ y. option_and_then (prefix_word q) y) (same_constant ns i j e)
same_constant ns i j (t.binary l q m a b) =
    ap (λ y. option_and_then (λ x. option_and_then (infix_word q x) (constant_in (with_names ns i) b)) y) (same_constant ns i j a)
    ∙ ap (λ y. option_and_then (λ x. option_and_then (infix_word q x) y) (constant_in (with_names ns j) a)) (same_constant ns i j b)
same_constant ns i j _ = refl

-- what stands there hangs on no more than the places of constants
mutual
  pub stands_by : (s : Sought) (u v : Environment) → ((e : Expression) → same_place s (the_case (constant_in u e)) ≡ same_place s (the_case (constant_in v e))) → (c : Command) → has_place s u c ≡ has_place s v c
  stands_by s u v f (t.label l x c) = ap (λ y. same_place s (the_label x) || y) (stands_by s u v f c)
  stands_by s u v f (t.case_of l e c) = ap (λ y. y || has_place s u c) (f e) ∙ ap (λ y. same_place s (the_case (constant_in v e)) || y) (stands_by s u v f c)
  stands_by s u v f (t.default l c) = ap (λ y. same_place s the_default || y) (stands_by s u v f c)
  stands_by s u v f (t.when l b e c) = stands_by s u v f c
  stands_by s u v f (t.test l e a b) = ap (λ y. y || has_place s u b) (stands_by s u v f a) ∙ ap (λ y. has_place s v a || y) (stands_by s u v f b)
  stands_by s u v f (t.while l b e c) = stands_by s u v f c
  stands_by s u v f (t.switch l e c) = ap (λ y. cond (is_label s) y false) (stands_by s u v f c)
  stands_by s u v f (t.block l t.no_declarations cs) = stands_one_by s u v f cs
  stands_by s u v f (t.repeat l c) = stands_by s u v f c
  stands_by s u v f (t.repeat_while l b c e) = stands_by s u v f c
  stands_by s u v f _ = refl

  stands_one_by : (s : Sought) (u v : Environment) → ((e : Expression) → same_place s (the_case (constant_in u e)) ≡ same_place s (the_case (constant_in v e))) → (cs : Commands) → one_has_place s u cs ≡ one_has_place s v cs
  stands_one_by s u v f t.no_commands = refl
  stands_one_by s u v f (t.also c cs) = ap (λ y. y || one_has_place s u cs) (stands_by s u v f c) ∙ ap (λ y. has_place s v c || y) (stands_one_by s u v f cs)

pub same_stands : (s : Sought) (ns : List Named) (i j : ℕ) (c : Command) → has_place s (with_names ns i) c ≡ has_place s (with_names ns j) c
same_stands s ns i j c = stands_by s (with_names ns i) (with_names ns j) (λ e. ap (λ y. same_place s (the_case y)) (same_constant ns i j e)) c

pub same_stands_one : (s : Sought) (ns : List Named) (i j : ℕ) (cs : Commands) → one_has_place s (with_names ns i) cs ≡ one_has_place s (with_names ns j) cs
same_stands_one s ns i j cs = stands_one_by s (with_names ns i) (with_names ns j) (λ e. ap (λ y. same_place s (the_case y)) (same_constant ns i j e)) cs

-- a label stands where it does, whatever names mean
pub label_stands : (x : List ℕ) (u v : Environment) (c : Command) → has_place (the_label x) u c ≡ has_place (the_label x) v c
label_stands x u v c = stands_by (the_label x) u v (λ e. refl) c

pub label_stands_one : (x : List ℕ) (u v : Environment) (cs : Commands) → one_has_place (the_label x) u cs ≡ one_has_place (the_label x) v cs
label_stands_one x u v cs = stands_one_by (the_label x) u v (λ e. refl) cs
