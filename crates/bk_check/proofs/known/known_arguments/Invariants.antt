use Rattle.std.specs.Prelude.{◌≤◌}
use Rattle.bk_check.proofs.Terms.{◌≡◌, ℕ, length, Expression, expressions_in, Environment, World, Program, env_in, list_value, applied_after}
use Rattle.bk_check.proofs.known.known_arguments.Given as goal

abbrev pub invariant-known : goal.invariant-known
invariant-known l =
    ((p : Program) (at : ℕ) (callee : Expression) (env : Environment) (w : World) → w.memory ≡ l.store → w.turns ≡ l.initial.turns
    → applied_after p at (list_value l.before.items) (expressions_in l.items) (env_in l.here) callee env (record w { turns = l.turns })
    ≡ applied_after p at (list_value l.initial.before.items) (expressions_in l.initial.items) (env_in l.here) callee env w)
    × (l.turns ≤ l.initial.turns)
    × (length l.items ≤ length l.initial.items)

abbrev pub decreases-known : goal.decreases-known
decreases-known l = length l.items
