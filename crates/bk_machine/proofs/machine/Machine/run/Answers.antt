use Rattle.bk_machine.proofs.RunSteps.{went_flushed, refl, Keeps-refl, Begins-trans}
use Rattle.bk_machine.proofs.machine.Machine.run.Goals as goal

pub returns-then-ne-clause-ran : goal.returns-then-ne-clause-ran
returns-then-ne-clause-ran g c = λ none.
    went_flushed _ _ _ _ _ _ _ _ _
    (record { left = Keeps-refl _; held = refl; ended = refl; taken = c.finish-end.ensures.kept; passes = c.finish-end.ensures.passes }) _ _
    c.finish-end.ensures.same c.go-end.ensures.went

pub returns-else-ne-clause-ran : goal.returns-else-ne-clause-ran
returns-else-ne-clause-ran g c = λ none.
    went_flushed _ _ _ _ _ _ _ _ _
    (record { left = Keeps-refl _; held = refl; ended = refl; taken = c.finish-end.ensures.kept; passes = c.finish-end.ensures.passes }) _ _
    c.finish-end.ensures.same c.go-end.ensures.went

pub returns-then-ne-clause-passes : goal.returns-then-ne-clause-passes
returns-then-ne-clause-passes g c = Begins-trans _ _ _ c.go-end.ensures.passes c.finish-end.ensures.passes

pub returns-else-ne-clause-passes : goal.returns-else-ne-clause-passes
returns-else-ne-clause-passes g c = Begins-trans _ _ _ c.go-end.ensures.passes c.finish-end.ensures.passes
