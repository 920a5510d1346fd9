-- What a table of names holds: the bindings in scope, and of each name the place of the innermost.
use Rattle.std.specs.Prelude.{◌≡◌, ℕ, cond, Option, Some, None, List, [], ◌∷◌, map, reverse, length}
use Rattle.std.specs.Map.{lookup}
use Rattle.std.specs.Option.{option_flatten}
use Rattle.std.specs.Str.{bytes_eq}
use Rattle.bk_scope.specs.Scope.{Binding}
use Rattle.bk_scope.specs.declared.name_key.NameKey.{NameKey}
use Rattle.bk_scope.specs.declared.table.Entry.{Entry}
use Rattle.bk_scope.specs.declared.table.Table.TheInside.{Inside}

abbrev pub binding_of : Entry → Binding
binding_of e = record { name = e.name.letters.now; bound = e.bound }

-- what is in scope by these entries, the outermost first: the bindings, the innermost first
abbrev pub scope_of : List Entry → List Binding
scope_of es = map binding_of (reverse es)

-- the place of a name's nearest binding, counted from the outermost
abbrev pub place_in : List Binding → List ℕ → Option ℕ
place_in [] x = None
place_in (b ∷ bs) x = cond (bytes_eq b.name x) (Some (length bs)) (place_in bs x)

-- each of these entries, the innermost first, has the place of the binding that it hides
abbrev pub HaveHidden : List Entry → Type 0
HaveHidden [] = Unit {0}
HaveHidden (e ∷ es) = (e.hidden ≡ place_in (map binding_of es) e.name.letters.now) × HaveHidden es

-- the place that the map has for a name
abbrev pub mapped_place : Inside → List ℕ → Option ℕ
mapped_place t x = option_flatten (lookup (λ (k : NameKey). bytes_eq x k.letters.now) t.innermost.entries)

pub record IsTable (t : Inside) : Type 0 where
  pub places : (x : List ℕ) → mapped_place t x ≡ place_in (scope_of t.bindings.items) x
  pub hidden : HaveHidden (reverse t.bindings.items)
