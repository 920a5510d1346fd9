-- What names mean: the declarations in scope at a place, the innermost first.
use Rattle.std.specs.Prelude.{ℕ, Bool, true, false, cond, Option, Some, None, List, [], ◌∷◌}
use Rattle.std.specs.Str.{bytes_eq}
use Rattle.bk_scope.specs.declared.bound.Bound.{Bound}
use Rattle.bk_scope.specs.declared.bound.Bound.TheVariants.{Global, Static, Variable}

-- a name with what it means
pub record Binding : Type 0 where
  pub name : List ℕ
  pub bound : Bound

-- the declaration of a name that is nearest outwards
abbrev pub bound_in : List Binding → List ℕ → Option Bound
bound_in [] x = None
bound_in (b ∷ bs) x = cond (bytes_eq b.name x) (Some b.bound) (bound_in bs x)

abbrev pub bind : List ℕ → Bound → List Binding → List Binding
bind x b bs = record { name = x; bound = b } ∷ bs

-- these, the first one first
abbrev pub bind_all : List Binding → List Binding → List Binding
bind_all [] bs = bs
bind_all (x ∷ xs) bs = bind_all xs (x ∷ bs)

abbrev pub is_global : Option Bound → Bool
is_global (Some (Global n)) = true
is_global _ = false

-- whether what it means has an address
abbrev pub has_address : Option Bound → Bool
has_address (Some (Global n)) = true
has_address (Some (Static n)) = true
has_address (Some (Variable k d)) = true
has_address _ = false
