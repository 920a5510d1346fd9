use Rattle.bk_filters.specs.AnyReader.{ran_with_any}
use Rattle.bk_filters.proofs.SourceLemmas.{source_runs, refl, segments, store_of, registers_of}
use Rattle.bk_filters.proofs.source.run_source.Goals as goal

pub returns-clause-headline : goal.returns-clause-headline
returns-clause-headline g c =
    let loads = c.in_ok-machine.ensures.loaded in
    let ran = rw (loads.store, loads.registers, c.words.ensures.value, c.steps.ensures.value) at c.run.ensures.ran loads.fresh in
    let room = rw c.words.ensures.value at loads.room in
    let most = rw c.words.ensures.value at c.words.ensures.within.1 in
    source_runs c.args.limits.words _ _ _ c.sources_run.ensures.runs c.run.result c.args.limits.steps _ _ loads.parts (store_of c.run.new.self) (registers_of c.run.new.self)
    loads.has room most loads.starts (ran_with_any _ _ _ _ _ _ _ _ c.run.result ran) c.run.ensures.passes (c.run.ensures.flushed loads.fresh) (c.run.ensures.cause loads.fresh)

pub returns-clause-keeps_limits : goal.returns-clause-keeps_limits
returns-clause-keeps_limits g c =
    let loads = c.in_ok-machine.ensures.loaded in
    let ran = rw (loads.store, loads.registers, c.words.ensures.value, c.steps.ensures.value) at c.run.ensures.ran loads.fresh in
    record {
      all = segments loads.parts;
      assembled = record { parts = loads.parts; segments_are = refl; has = loads.has };
      room = rw c.words.ensures.value at loads.room;
      starts = loads.starts;
      store = store_of c.run.new.self;
      registers = registers_of c.run.new.self;
      ran = ran;
    }
