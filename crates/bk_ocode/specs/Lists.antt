-- Lists made of lists.
use Rattle.std.specs.Prelude.{List, [], ◌∷◌, ◌++◌}

-- the lists that each of these gives, one after another
abbrev pub joined : {A B : Type 0} → (A → List B) → List A → List B
joined f [] = []
joined f (x ∷ rest) = f x ++ joined f rest
