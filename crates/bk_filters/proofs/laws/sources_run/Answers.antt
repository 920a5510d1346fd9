use Rattle.bk_filters.proofs.MeaningLemmas.{meanings_run, meanings_too_small, meanings_startless}
use Rattle.bk_filters.proofs.SourceLaws.{run_laws}
use Rattle.bk_filters.proofs.SourceSectionLemmas.{meaning_refuses}
use Rattle.bk_filters.proofs.laws.sources_run.Goals as goal

pub returns-clause-runs : goal.returns-clause-runs
returns-clause-runs c =
    meanings_run (run_laws c.back_end.ensures c.parts_are_well_placed.ensures c.parts_without_start.ensures c.steps_do_what_sources_mean.ensures c.steps_go_on_with_their_source.ensures c.programs_start_with_their_source.ensures)

pub returns-clause-too_small : goal.returns-clause-too_small
returns-clause-too_small c =
    meanings_too_small (run_laws c.back_end.ensures c.parts_are_well_placed.ensures c.parts_without_start.ensures c.steps_do_what_sources_mean.ensures c.steps_go_on_with_their_source.ensures c.programs_start_with_their_source.ensures)

pub returns-clause-startless : goal.returns-clause-startless
returns-clause-startless c =
    meanings_startless (run_laws c.back_end.ensures c.parts_are_well_placed.ensures c.parts_without_start.ensures c.steps_do_what_sources_mean.ensures c.steps_go_on_with_their_source.ensures c.programs_start_with_their_source.ensures)

pub returns-clause-refuses : goal.returns-clause-refuses
returns-clause-refuses c = meaning_refuses
