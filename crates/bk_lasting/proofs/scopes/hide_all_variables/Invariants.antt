use Rattle.bk_lasting.proofs.Terms.{◌≡◌, drop, definitions_in, variables_hidden, env_in}
use Rattle.bk_lasting.proofs.scopes.hide_all_variables.Given as goal

abbrev pub invariant-loop-def : goal.invariant-loop-def
invariant-loop-def l = variables_hidden (definitions_in (drop l.def-index l.defs)) (env_in l.env) ≡ variables_hidden (definitions_in l.defs) (env_in l.initial.env)
