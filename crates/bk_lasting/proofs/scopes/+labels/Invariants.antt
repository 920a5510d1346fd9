use Rattle.bk_lasting.proofs.Terms.{◌≡◌, drop, commands_in, labelled, env_in}
use Rattle.bk_lasting.proofs.scopes.+labels.Given as goal

abbrev pub invariant-labelled-loop-command : goal.invariant-labelled-loop-command
invariant-labelled-loop-command l = labelled (commands_in (drop l.command-index l.commands)) (env_in l.env) ≡ labelled (commands_in l.commands) (env_in l.initial.env)
