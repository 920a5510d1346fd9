use Rattle.bk_lasting.proofs.Terms.{◌≡◌, ◌++◌, length, map, replicate, ap, ◌∙◌, holds, unset, library_cells, procedures_set, cell_in, lasting_in}
use Rattle.bk_lasting.proofs.Begun.{globals_unset, written_whole}
use Rattle.bk_lasting.proofs.memory.global_cells.Goals as goal

pub returns : goal.returns
returns c =
    let items = c.deref_mut.ensures.value in
    let before : map cell_in c.deref_mut.result.now ≡ library_cells ++ replicate 988 (holds unset) =
    ap (map cell_in) (items ∙ c.in_ok-resize.ensures.items) ∙ globals_unset c.in_ok-cells.cells.items _ c.in_ok-cells.ensures c.in_ok-cells.cells.ok.0 in
    ap (map cell_in) (written_whole c.set_procedures.new.cells c.resize.new.self.items _ (c.set_procedures.auto.cells ∙ ap length items) c.resize.new.self.ok.0)
    ∙ c.set_procedures.ensures
    ∙ ap (procedures_set 0 (map lasting_in c.args.program.now)) before
