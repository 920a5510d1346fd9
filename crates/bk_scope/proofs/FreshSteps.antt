-- Bindings that come into scope together: one more.
use Rattle.bk_scope.proofs.Terms.{◌≡◌, List, [], ◌∷◌, ◌++◌, refl, Binding, bind_all}

pub bind_all-push : (xs : List Binding) (x : Binding) (bs : List Binding) → bind_all (xs ++ x ∷ []) bs ≡ x ∷ bind_all xs bs
bind_all-push [] x bs = refl
bind_all-push (y ∷ xs) x bs = bind_all-push xs x (y ∷ bs)
