use Rattle.bk_lasting.proofs.Terms.{◌≡◌, sense_of, sense_in, names_in, env_in}
use Rattle.bk_lasting.proofs.env.Env.sense.Given as goal

abbrev pub invariant-loop-names : goal.invariant-loop-names
invariant-loop-names l = sense_in (names_in l.names) l.name ≡ sense_of l.name (env_in l.self)
