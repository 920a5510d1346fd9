use Rattle.bk_lasting.proofs.Terms.{◌≡◌, drop, declarations_in, all_declared, env_in}
use Rattle.bk_lasting.proofs.scopes.all_declared.Given as goal

abbrev pub invariant-loop-decl : goal.invariant-loop-decl
invariant-loop-decl l = all_declared (declarations_in (drop l.decl-index l.decls)) (env_in l.env) ≡ all_declared (declarations_in l.decls) (env_in l.initial.env)
