use Rattle.bk_kit.proofs.Terms.{◌≢◌, Ok, ap, refl, segments, store_of, registers_of, Begins-trans, WriteFault, source_runs}
use Rattle.bk_filters.specs.AnyReader.{ran_with_any}
use Rattle.bk_kit.proofs.source_trace.trace_source.Goals as goal

pub returns-clause-headline : goal.returns-clause-headline
returns-clause-headline g c = λ sound.
    let so : c.run_steps-end.result ≢ WriteFault = λ fails. sound (ap Ok fails) in
    let loads = c.in_ok-machine.ensures.loaded in
    let ran = rw (loads.store, loads.registers, c.words.ensures.value) at c.run_steps-end.ensures.ran so in
    let room = rw c.words.ensures.value at loads.room in
    let most = rw c.words.ensures.value at c.words.ensures.within.1 in
    source_runs c.args.limits.words _ _ _ c.sources_run.ensures.runs c.run_steps-end.result c.args.limits.steps _ _ loads.parts (store_of c.run_steps-end.new.machine) (registers_of c.run_steps-end.new.machine)
    loads.has room most loads.starts (ran_with_any _ _ _ _ _ _ _ _ c.run_steps-end.result ran) c.run_steps-end.ensures.passes c.run_steps-end.ensures.flushed c.run_steps-end.ensures.cause

pub returns-clause-keeps_limits : goal.returns-clause-keeps_limits
returns-clause-keeps_limits g c = λ sound.
    let so : c.run_steps-end.result ≢ WriteFault = λ fails. sound (ap Ok fails) in
    let loads = c.in_ok-machine.ensures.loaded in
    let ran = rw (loads.store, loads.registers, c.words.ensures.value) at c.run_steps-end.ensures.ran so in
    record {
      all = segments loads.parts;
      assembled = record { parts = loads.parts; segments_are = refl; has = loads.has };
      room = rw c.words.ensures.value at loads.room;
      starts = loads.starts;
      store = store_of c.run_steps-end.new.machine;
      registers = registers_of c.run_steps-end.new.machine;
      ran = ran;
    }

pub returns-clause-reported : goal.returns-clause-reported
returns-clause-reported g c = (
  Begins-trans _ _ _ c.report_heading.ensures.grows (Begins-trans _ _ _ c.run_steps-end.ensures.reported.0 c.report_end.ensures.grows),
  Begins-trans _ _ _ c.report_heading.ensures.passes (Begins-trans _ _ _ c.run_steps-end.ensures.reported.1 c.report_end.ensures.passes),
)
