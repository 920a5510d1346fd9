use Rattle.bk_check.proofs.Terms.{◌≡◌, drop, commands_in, sought_in, env_in}
use Rattle.bk_meaning.specs.Seeking as q
use Rattle.bk_check.proofs.seeking.+seeking.Given as goal

abbrev pub invariant-one_has_place-loop-c : goal.invariant-one_has_place-loop-c
invariant-one_has_place-loop-c l = q.one_has_place (sought_in l.sought) (env_in l.env) (commands_in (drop l.c-index l.commands)) ≡ q.one_has_place (sought_in l.sought) (env_in l.env) (commands_in l.commands)
