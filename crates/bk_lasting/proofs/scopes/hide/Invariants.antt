use Rattle.bk_lasting.proofs.Terms.{◌≡◌, drop, map, mention, foreign, bind_each, letters, env_in}
use Rattle.bk_lasting.proofs.scopes.hide.Given as goal

abbrev pub invariant-loop-name : goal.invariant-loop-name
invariant-loop-name l = bind_each (letters (map mention (drop l.name-index l.names))) foreign (env_in l.env) ≡ bind_each (letters (map mention l.names)) foreign (env_in l.initial.env)
