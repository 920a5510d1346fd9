-- Equal names are hashed alike.
use Rattle.std.proofs.Common.{◌≡◌, ℕ, true, bytes_eq, List, [], ◌∷◌, ap}
use Rattle.std.proofs.lemmas.Slice.Eq.{bytes_eq-Decides}

pub same_input : (x y : List ℕ) → bytes_eq x y ≡ true → ◌≡◌ {A = List (List ℕ)} (x ∷ []) (y ∷ [])
same_input x y e = ap (λ l. l ∷ []) ((bytes_eq-Decides x y).0 e)
