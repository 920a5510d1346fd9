use Rattle.bk_checker.proofs.Terms.{rules, sym, ◌∙◌, subst, Blames, CheckFault}
use Rattle.bk_base.specs.DeviceLaws.{Begins-trans}
use Rattle.bk_checker.proofs.Running.{reaches_still, reaches_after, reaches_either, exchanged_none, run_part, run_shows, nothing_run, run_deep, deep_kept, runs_kept, part_kept, flushed_all, if_err, read_failures}
use Rattle.bk_checker.proofs.checker.check_start.Goals as goal

pub returns-in_err-first-clause-part : goal.returns-in_err-first-clause-part
returns-in_err-first-clause-part g c = if_err c.from_residual.result (λ turns begun. nothing_run _ _ turns _ _ (exchanged_none _))

pub returns-in_err-flush-clause-part : goal.returns-in_err-flush-clause-part
returns-in_err-flush-clause-part g c = if_err c.from_residual-in_err-flush.result (λ turns begun.
    part_kept _ _ turns _ _ _ c.flush.ensures.keeps
    (run_part _ _ turns c.args.m.now c.call.new.m c.in_ok-first.first _ _ begun (rw (c.first.ensures, c.new-arguments.ensures.items) at c.in_ok-first.ensures.comes)
    (reaches_either _ _ _ _ _ _ c.go-came.result c.go-came.ensures.moves c.go-came.ensures.part)))

pub returns-in_err-flush-clause-cause : goal.returns-in_err-flush-clause-cause
returns-in_err-flush-clause-cause g c =
    let failed = c.in_err-flush.ensures.cause in
    let reads = read_failures c.go-came.result _ _ _ _ c.go-came.ensures.sound c.go-came.ensures.cause in
    let blamed : Blames c.in_err-flush.field-0.0 (g.I.ByteIn.faults c.args.input.now) (g.I.ByteIn.faults c.go-came.new.input) (g.O.ByteOut.faults c.args.out.now) (g.O.ByteOut.faults c.flush.new.out) =
    subst (λ (f : CheckFault). Blames f (g.I.ByteIn.faults c.args.input.now) (g.I.ByteIn.faults c.go-came.new.input) (g.O.ByteOut.faults c.args.out.now) (g.O.ByteOut.faults c.flush.new.out)) (sym failed.0) (reads, failed.1) in
    search (blamed, c.from_residual-in_err-flush.ensures, rules)

pub returns-in_err-flush-clause-passes : goal.returns-in_err-flush-clause-passes
returns-in_err-flush-clause-passes g c = Begins-trans _ _ _ c.go-came.ensures.passes c.flush.ensures.passes

pub returns-in_err-explain-in-Ok-clause-part : goal.returns-in_err-explain-in-Ok-clause-part
returns-in_err-explain-in-Ok-clause-part g c = if_err c.from_residual-in_err-explain-in-Ok.result (λ turns begun.
    part_kept _ _ turns _ _ _ c.flush.ensures.keeps
    (run_part _ _ turns c.args.m.now c.call.new.m c.in_ok-first.first _ _ begun (rw (c.first.ensures, c.new-arguments.ensures.items) at c.in_ok-first.ensures.comes)
    (reaches_after _ _ _ _ _ _ _ _ c.in-Ok.ensures.moves (reaches_still _ _ _ _ _ (exchanged_none _)))))

pub returns-in_err-explain-in-Ok-clause-passes : goal.returns-in_err-explain-in-Ok-clause-passes
returns-in_err-explain-in-Ok-clause-passes g c = Begins-trans _ _ _ c.go-came.ensures.passes c.flush.ensures.passes

pub returns-in_ok-explain-in-Ok-clause-shows : goal.returns-in_ok-explain-in-Ok-clause-shows
returns-in_ok-explain-in-Ok-clause-shows g c = λ turns begun.
    runs_kept _ _ turns _ _ _ _ _ c.flush.ensures.keeps
    (run_shows _ _ turns c.args.m.now c.call.new.m c.go-came.new.m c.in_ok-first.first c.in-Ok.last _ _ _ _ begun (rw (c.first.ensures, c.new-arguments.ensures.items) at c.in_ok-first.ensures.comes) c.in-Ok.ensures.moves c.in-Ok.ensures.ended c.in_ok-explain-in-Ok.ensures)

pub returns-in_ok-explain-in-Ok-clause-passes : goal.returns-in_ok-explain-in-Ok-clause-passes
returns-in_ok-explain-in-Ok-clause-passes g c = Begins-trans _ _ _ c.go-came.ensures.passes c.flush.ensures.passes

pub returns-in-Err-clause-part : goal.returns-in-Err-clause-part
returns-in-Err-clause-part g c = λ turns begun.
    part_kept _ _ turns _ _ _ c.flush.ensures.keeps
    (run_part _ _ turns c.args.m.now c.call.new.m c.in_ok-first.first _ _ begun (rw (c.first.ensures, c.new-arguments.ensures.items) at c.in_ok-first.ensures.comes) c.in-Err.ensures.part)

pub returns-in-Err-clause-flushed_where_given_up : goal.returns-in-Err-clause-flushed_where_given_up
returns-in-Err-clause-flushed_where_given_up g c = flushed_all c.given_up.result.fault _ _ c.in_ok-flush.ensures.all

pub returns-in-Err-clause-passes : goal.returns-in-Err-clause-passes
returns-in-Err-clause-passes g c = Begins-trans _ _ _ c.go-came.ensures.passes c.flush.ensures.passes

pub returns-in-Err-clause-limit : goal.returns-in-Err-clause-limit
returns-in-Err-clause-limit g c = λ is turns begun.
    deep_kept _ _ _ (run_deep _ _ turns c.args.m.now c.call.new.m c.go-came.new.m c.in_ok-first.first _ _ begun (rw (c.first.ensures, c.new-arguments.ensures.items) at c.in_ok-first.ensures.comes) (c.in-Err.ensures.limits (sym c.given_up.ensures ∙ is)))
