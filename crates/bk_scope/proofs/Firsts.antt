-- What is wrong first.
use Rattle.bk_scope.proofs.Terms.{◌≡◌, List, [], ◌∷◌, ◌++◌, refl, Breach, first_of, else_first}

-- the first of two stretches is that of the one in front, if it has one
pub first_of-append : (xs ys : List Breach) → first_of (xs ++ ys) ≡ else_first (first_of xs) (first_of ys)
first_of-append [] ys = refl
first_of-append (x ∷ xs) ys = refl
