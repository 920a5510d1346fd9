use Rattle.bk_lasting.proofs.Terms.{◌≡◌, drop, items_in, manifests, env_in}
use Rattle.bk_lasting.proofs.scopes.manifests.Given as goal

abbrev pub invariant-loop-name : goal.invariant-loop-name
invariant-loop-name l = manifests (items_in (drop l.name-index l.items)) (env_in l.env) ≡ manifests (items_in l.items) (env_in l.initial.env)
