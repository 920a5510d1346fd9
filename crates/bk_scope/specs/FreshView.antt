-- Bindings that come into scope later.
use Rattle.std.specs.Prelude.{List, map}
use Rattle.bk_scope.specs.declared.fresh.FreshName.{FreshName}
use Rattle.bk_scope.specs.Scope.{Binding}

abbrev pub binding_of : FreshName → Binding
binding_of f = record { name = f.name.now; bound = f.bound }

abbrev pub bindings_of : List FreshName → List Binding
bindings_of fs = map binding_of fs
