use Rattle.bk_check.proofs.Terms.{◌≡◌, ◌++◌, drop, map, letters_in, cell_in, list_value}
use Rattle.bk_meaning.specs.Calls as c
use Rattle.bk_check.proofs.calls.formal_cells.Given as goal

abbrev pub invariant-loop-i : goal.invariant-loop-i
invariant-loop-i l = map cell_in l.cells.items ++ c.formal_cells (letters_in (drop l.i l.formals)) (list_value (drop l.i l.values)) ≡ c.formal_cells (letters_in l.formals) (list_value l.values)
