-- Words that grow.
use Rattle.bk_machine.proofs.Terms.{ℕ, List, Growth}

-- words of which the last has as many bytes
abbrev pub growth_of : List ℕ → ℕ → Growth
growth_of words filled = record { words = words; filled = filled }
