use Rattle.bk_lasting.proofs.Terms.{◌≡◌, ◌++◌, drop, map, holds, number, cell_in}
use Rattle.bk_lasting.proofs.memory.word_cells.Given as goal

abbrev pub invariant-loop-word : goal.invariant-loop-word
invariant-loop-word l = map cell_in l.cells.items ++ map (λ w. holds (number w)) (drop l.word-index l.words) ≡ map (λ w. holds (number w)) l.words
