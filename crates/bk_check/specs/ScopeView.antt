-- What a scope that runs keeps: the places of its labels, and what names mean in it.
use Rattle.std.specs.Prelude.{◌≡◌, ℕ, List, IfSome}
use Rattle.bk_tree.specs.declared.tree.Command.{Command}
use Rattle.bk_tree.specs.Tree.{commands_in}
use Rattle.bk_meaning.specs.Environment.{Environment, labelled}
use Rattle.bk_lasting.specs.Views.{env_in}
use Rattle.bk_check.specs.Places.{place_at, place_from}
use Rattle.bk_check.specs.Scoped.{Scoped}
use Rattle.bk_check.specs.declared.scopes.Labels.{Labels}
use Rattle.bk_check.specs.declared.scopes.Scope.TheInside.{Inside}

abbrev pub scope_in : Inside → Scoped
scope_in s = record { commands = s.commands.now; env = env_in s.env }

abbrev pub Knows : Labels → List Command → Environment → Type 0
Knows l cs env = (env_in l.inside ≡ labelled (commands_in cs) env) × ((x : List ℕ) → place_at x l.places ≡ place_from x 0 cs)

abbrev pub IsScope : Inside → Type 0
IsScope s = IfSome s.labels (λ l. Knows l.value s.commands.now (env_in s.env))
