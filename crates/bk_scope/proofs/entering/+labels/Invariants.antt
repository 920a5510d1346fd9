use Rattle.bk_scope.proofs.Terms.{◌≡◌, drop, commands_in, with_labels, labels_of_each}
use Rattle.bk_scope.proofs.entering.+labels.Given as goal

abbrev pub invariant-enter_labels_of_each-loop-command : goal.invariant-enter_labels_of_each-loop-command
invariant-enter_labels_of_each-loop-command l =
    with_labels l.procedure (labels_of_each (commands_in (drop l.command-index l.commands))) l.walk ≡ with_labels l.procedure (labels_of_each (commands_in l.commands)) l.fn.walk
