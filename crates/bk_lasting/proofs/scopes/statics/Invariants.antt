use Rattle.bk_lasting.proofs.Terms.{◌≡◌, drop, items_in, statics, env_in}
use Rattle.bk_lasting.proofs.scopes.statics.Given as goal

abbrev pub invariant-loop-name : goal.invariant-loop-name
invariant-loop-name l = statics (items_in (drop l.name-index l.items)) (env_in l.env) ≡ statics (items_in l.items) (env_in l.initial.env)
