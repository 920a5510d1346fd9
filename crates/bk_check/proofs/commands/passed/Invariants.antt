use Rattle.std.specs.Prelude.{◌≤◌}
use Rattle.bk_check.proofs.Terms.{◌≡◌, length, commands_in, World, Program, in_order, seeking, full, env_in, sought_in}
use Rattle.bk_check.proofs.commands.passed.Given as goal

abbrev pub invariant-passing : goal.invariant-passing
invariant-passing l =
    ((p : Program) (w : World) → in_order (full p) (commands_in l.rest) (seeking (sought_in l.sought)) (env_in l.here) w
    ≡ in_order (full p) (commands_in l.initial.rest) (seeking (sought_in l.sought)) (env_in l.initial.here) w)
    × (length l.rest ≤ length l.initial.rest)

abbrev pub decreases-passing : goal.decreases-passing
decreases-passing l = length l.rest
