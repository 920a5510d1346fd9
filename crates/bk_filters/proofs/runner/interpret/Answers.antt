use Rattle.bk_filters.proofs.Terms.{store_of, registers_of}
use Rattle.bk_filters.proofs.runner.interpret.Goals as goal

pub returns-clause-interpreted : goal.returns-clause-interpreted
returns-clause-interpreted g c =
    let loads = c.in_ok-machine.ensures.loaded in
    let ran = rw (loads.store, loads.registers, c.words.ensures.value, c.steps.ensures.value) at c.run.ensures.ran loads.fresh in (
      record {
        all = loads.all;
        loadable = rw c.words.ensures.value at loads.loadable;
        store = store_of c.run.new.self;
        registers = registers_of c.run.new.self;
        ran = ran;
      },
      c.run.ensures.passes,
      c.run.ensures.flushed loads.fresh,
      c.run.ensures.cause loads.fresh,
    )
