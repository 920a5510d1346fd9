use Rattle.bk_lasting.proofs.Terms.{◌≡◌, drop, definitions_in, bind_procedures, env_in}
use Rattle.bk_lasting.proofs.scopes.bind_procedures.Given as goal

abbrev pub invariant-loop-def : goal.invariant-loop-def
invariant-loop-def l = bind_procedures (definitions_in (drop l.def-index l.defs)) (env_in l.env) ≡ bind_procedures (definitions_in l.defs) (env_in l.initial.env)
