use Rattle.bk_machine.proofs.Routines.{library-more, ◌≡◌, ◌+◌, ◌-◌, ◌*◌, ap, sym, ◌∙◌, arith, take, fold, slice_set, length-set, library_settings, with_setting}
use Rattle.bk_machine.proofs.library.set_globals.Goals as goal

pub loop-global-preserved : goal.loop-global-preserved
loop-global-preserved c = record {
  set = ap (λ l. slice_set l (16 + c.loop-global.global) (1016 + 2 * (c.loop-global.global - 2))) c.loop-global.invariant.set
      ∙ sym (library-more c.args.words.now.items c.loop-global.global (record { global = 0; value = 0 }) (omega arith) (omega arith));
  length = length-set c.loop-global.words.items (16 + c.loop-global.global) (1016 + 2 * (c.loop-global.global - 2)) ∙ c.loop-global.invariant.length;
}

pub returns : goal.returns
returns c =
    let end : c.loop-global.global ≡ 11 = omega arith in
    ap (λ l. slice_set l 27 4) (c.loop-global.invariant.set ∙ ap (λ n. fold with_setting c.args.words.now.items (take (n - 2) library_settings)) end)
