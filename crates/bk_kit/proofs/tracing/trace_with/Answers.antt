use Rattle.bk_kit.proofs.Terms.{Begins-trans, store_of, registers_of}
use Rattle.bk_kit.proofs.tracing.trace_with.Goals as goal

pub returns-clause-traced : goal.returns-clause-traced
returns-clause-traced g c =
    let loads = c.in_ok-machine.ensures.loaded in (
      λ sound.
          let ran = rw (loads.store, loads.registers, c.words.ensures.value) at c.run_steps.ensures.ran sound in
          record {
            all = loads.all;
            loadable = rw c.words.ensures.value at loads.loadable;
            store = store_of c.run_steps.new.machine;
            registers = registers_of c.run_steps.new.machine;
            ran = ran;
          },
      c.run_steps.ensures.passes,
      c.run_steps.ensures.flushed,
      c.run_steps.ensures.cause,
    )

pub returns-clause-reported : goal.returns-clause-reported
returns-clause-reported g c = (
  Begins-trans _ _ _ c.known_procedures.ensures.grows (Begins-trans _ _ _ c.report_heading.ensures.grows c.run_steps.ensures.reported.0),
  Begins-trans _ _ _ c.known_procedures.ensures.passes (Begins-trans _ _ _ c.report_heading.ensures.passes c.run_steps.ensures.reported.1),
)
