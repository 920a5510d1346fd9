use Rattle.bk_objects.proofs.Terms.{◌≡◌, ◌++◌, ◌+◌, ◌-◌, ◌≤◌, length, map, option_map, parts, written, written_cause, value_in}
use Rattle.bk_objects.proofs.text.add_format.Given as goal

abbrev pub invariant-loop-byte : goal.invariant-loop-byte
invariant-loop-byte l =
    (option_map (λ bytes. l.initial.text.items ++ bytes) (written l.store (parts l.format) (map value_in l.arguments))
    ≡ option_map (λ bytes. l.text.items ++ bytes) (written l.store (parts l.rest) (map value_in l.left)))
    × (written_cause l.store 2 (parts l.format) (map value_in l.arguments)
    ≡ written_cause l.store (2 + (length l.arguments - length l.left)) (parts l.rest) (map value_in l.left))
    × (length l.left ≤ length l.arguments)

abbrev pub decreases-loop-byte : goal.decreases-loop-byte
decreases-loop-byte l = length l.rest
