use Rattle.bk_objects.proofs.Terms.{◌≡◌, ◌+◌, ◌-◌, ◌++◌, option_map, bytes_from, bytes_cause, value_in}
use Rattle.bk_objects.proofs.text.add_bytes.Given as goal

abbrev pub invariant-loop-i : goal.invariant-loop-i
invariant-loop-i l =
    (option_map (λ bytes. l.initial.text.items ++ bytes) (bytes_from l.count l.store (value_in l.at) 1)
    ≡ option_map (λ bytes. l.text.items ++ bytes) (bytes_from (l.count - l.i) l.store (value_in l.at) (l.i + 1)))
    × (bytes_cause l.count l.store (value_in l.at) 1 ≡ bytes_cause (l.count - l.i) l.store (value_in l.at) (l.i + 1))
