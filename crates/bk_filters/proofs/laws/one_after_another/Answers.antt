use Rattle.bk_filters.proofs.FilterCode.{one_after_another}
use Rattle.bk_filters.proofs.SourceLaws.{run_laws}
use Rattle.bk_filters.proofs.laws.one_after_another.Goals as goal

pub returns : goal.returns
returns c =
    one_after_another c.scheme_is_accepted.ensures c.one_saying.ensures c.one_saying-2.ensures
    (run_laws c.back_end.ensures c.parts_are_well_placed.ensures c.parts_without_start.ensures c.steps_do_what_sources_mean.ensures c.steps_go_on_with_their_source.ensures c.programs_start_with_their_source.ensures)
