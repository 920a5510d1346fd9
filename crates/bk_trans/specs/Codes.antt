-- The first of some stretches of code, where there is one.
use Rattle.std.specs.Prelude.{◌≡◌, Option, Some, None, List, [], ◌∷◌, Vec}
use Rattle.std.specs.Global.{Global}
use Rattle.bk_trans.specs.declared.unresolved.Unresolved.{Unresolved}

abbrev pub TakesFirst : Option (Vec Unresolved Global) → List (List Unresolved) → List (List Unresolved) → Type 0
TakesFirst None old new = (old ≡ []) × (new ≡ [])
TakesFirst (Some code) old new = old ≡ code.items ∷ new
