use Rattle.bk_check.proofs.Terms.{◌≡◌, drop, map, World, remembering, bind_variables, start_in, env_in}
use Rattle.bk_check.proofs.blocks.bind_starts.Given as goal

abbrev pub invariant-loop-start : goal.invariant-loop-start
invariant-loop-start l = (w : World) → w.memory ≡ l.initial.store → bind_variables (map start_in (drop l.start-index l.starts)) (env_in l.env) (remembering l.store w) ≡ bind_variables (map start_in l.starts) (env_in l.initial.env) w
