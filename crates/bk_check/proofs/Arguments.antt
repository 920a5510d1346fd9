-- One argument more before those that are left.
use Rattle.bk_check.proofs.Terms.{◌≡◌, ℕ, List, [], ◌∷◌, ◌++◌, map, ap, ◌∙◌, append_assoc, Expression, Expressions, Value, World, with, Environment, Program, values, call, full, Worth, value_in, list_value, applied_after}
use Rattle.std.proofs.lemmas.List.{map-append}
use Rattle.bk_check.proofs.Outcomes.{with_each}

pub argument_then : (p : Program) (spot : ℕ) (before more : List Worth) (x : Worth) (es : Expressions) (here : Environment) (callee : Expression) (env : Environment) (w : World) → more ≡ before ++ x ∷ []
    → applied_after p spot (list_value more) es here callee env w
    ≡ with (values (full p) es here w) (λ vs w. with ((full p).value callee env w) (λ g w. call p (full p) spot g (map value_in before ++ value_in x ∷ vs) w))
argument_then p spot before more x es here callee env w is =
    ap (λ (xs : List Worth). applied_after p spot (list_value xs) es here callee env w) is
    ∙ ap (λ (ys : List Value). applied_after p spot ys es here callee env w) (map-append value_in before (x ∷ []))
    ∙ with_each (values (full p) es here w) _ _ (λ vs w. with_each ((full p).value callee env w) _ _ (λ g w. ap (λ (l : List Value). call p (full p) spot g l w) (append_assoc (map value_in before) (value_in x ∷ []) vs)))
