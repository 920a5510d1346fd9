use Rattle.bk_lasting.proofs.Terms.{set, map, ap, ◌∙◌, map-set, cell_in}
use Rattle.bk_lasting.proofs.memory.set_global.Goals as goal

pub returns-then-global-cells : goal.returns-then-global-cells
returns-then-global-cells c =
    rw c.in-Some.is (map-set cell_in c.args.cells.now c.in-Some.global c.procedure_cell.result ∙ ap (λ x. set (map cell_in c.args.cells.now) c.in-Some.global x) c.procedure_cell.ensures)
