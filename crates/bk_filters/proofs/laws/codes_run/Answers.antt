use Rattle.bk_filters.proofs.CodeOfSources.{interprets_sources, frames_are_of_sources}
use Rattle.bk_filters.proofs.SourceLaws.{run_laws}
use Rattle.bk_filters.proofs.laws.codes_run.Goals as goal

pub returns-clause-interprets : goal.returns-clause-interprets
returns-clause-interprets c =
    interprets_sources (run_laws c.back_end.ensures c.parts_are_well_placed.ensures c.parts_without_start.ensures c.steps_do_what_sources_mean.ensures c.steps_go_on_with_their_source.ensures c.programs_start_with_their_source.ensures)
    c.one_saying.ensures

pub returns-clause-frames : goal.returns-clause-frames
returns-clause-frames c = frames_are_of_sources
