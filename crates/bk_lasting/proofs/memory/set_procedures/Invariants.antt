use Rattle.bk_lasting.proofs.Terms.{◌≡◌, drop, map, procedures_set, cell_in, lasting_in}
use Rattle.bk_lasting.proofs.memory.set_procedures.Given as goal

abbrev pub invariant-loop-number : goal.invariant-loop-number
invariant-loop-number l = procedures_set l.number (map lasting_in (drop l.number l.program)) (map cell_in l.cells) ≡ procedures_set 0 (map lasting_in l.program) (map cell_in l.fn.cells)
