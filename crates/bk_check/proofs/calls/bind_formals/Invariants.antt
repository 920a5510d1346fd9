use Rattle.bk_check.proofs.Terms.{◌≡◌, drop, letters_in, env_in}
use Rattle.bk_meaning.specs.Calls as c
use Rattle.bk_check.proofs.calls.bind_formals.Given as goal

abbrev pub invariant-loop-formal : goal.invariant-loop-formal
invariant-loop-formal l = c.bind_formals l.object l.offset (letters_in (drop l.formal-index l.formals)) (env_in l.env) ≡ c.bind_formals l.object 0 (letters_in l.formals) (env_in l.initial.env)
