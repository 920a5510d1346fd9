use Rattle.bk_machine.proofs.Terms.{◌≡◌, ◌-◌, take, length, fold, library_settings, with_setting}
use Rattle.bk_machine.proofs.library.set_globals.Given as goal

abbrev pub invariant-loop-global : goal.invariant-loop-global
invariant-loop-global l = record {
  set : l.words.items ≡ fold with_setting l.initial.words.items (take (l.global - 2) library_settings);
  length : length l.words.items ≡ length l.initial.words.items;
}
