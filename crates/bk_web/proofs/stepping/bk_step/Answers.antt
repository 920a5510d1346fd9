use Rattle.std.proofs.Common.{◌∙◌, ap, sym, refl, inl, length, min}
use Rattle.bk_machine.specs.State.{store_of, registers_of}
use Rattle.bk_web.specs.Kept.{kept_of}
use Rattle.bk_web.proofs.stepping.bk_step.Goals as goal

pub returns-clause-stepped : goal.returns-clause-stepped
returns-clause-stepped c =
    let loads = c.in-Ok.ensures.loaded in
    let fresh = c.new-output.ensures in
    let ran = rw (loads.loads.store, loads.loads.registers, c.new.ensures.left, c.new.ensures.held, c.new.ensures.ended, fresh.0) at c.run-end.ensures.ran loads.loads.fresh in
    inl (record {
      all = loads.loads.all;
      left = loads.left;
      ended = loads.ended;
      loadable = loads.loads.loadable;
      end = c.run-end.result;
      store = store_of c.run-end.new.self;
      registers = registers_of c.run-end.new.self;
      after = _;
      ran = ran;
      status_is = c.status_of_end.ensures;
      registers_are = sym c.registers-registers.ensures;
      stack_is = ap (λ s. s.image) (c.sizes.ensures ∙ c.run-end.ensures.fixed.1 ∙ loads.loads.sizes);
      words_are = (
        c.copy_words.ensures.count ∙ ap (λ n. min (length (store_of c.run-end.new.self)) n) (sym c.copy_words.ensures.len),
        c.copy_words.ensures.front,
      );
      output = kept_of c.run-end.new.out;
      output_is = refl;
      output_given = (rw c.bytes.ensures at c.copy_front.ensures.count, rw c.bytes.ensures at c.copy_front.ensures.front);
    })
