use Rattle.bk_filters.proofs.OcodeSteps.{ocode_runs}
use Rattle.bk_filters.proofs.laws.ocode_runs.Goals as goal

pub returns : goal.returns
returns c = ocode_runs c.back_end.ensures c.parts_are_well_placed.ensures c.parts_without_start.ensures c.one_saying.ensures c.one_saying-2.ensures
