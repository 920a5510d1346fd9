use Rattle.bk_lasting.proofs.Terms.{◌≡◌, drop, items_in, globals, env_in}
use Rattle.bk_lasting.proofs.scopes.globals.Given as goal

abbrev pub invariant-loop-name : goal.invariant-loop-name
invariant-loop-name l = globals (env_in l.outer) (items_in (drop l.name-index l.items)) (env_in l.env) ≡ globals (env_in l.outer) (items_in l.items) (env_in l.initial.env)
