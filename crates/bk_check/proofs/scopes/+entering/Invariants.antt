use Rattle.bk_check.proofs.Terms.{◌≡◌, ℕ, List, drop, commands_in}
use Rattle.bk_check.specs.Places.{place_in, place_at, entered, stands_in_one}
use Rattle.bk_check.proofs.scopes.+entering.Given as goal

abbrev pub invariant-enter_each-loop-command : goal.invariant-enter_each-loop-command
invariant-enter_each-loop-command l = (x : List ℕ) →
    entered (stands_in_one x (commands_in (drop l.command-index l.commands))) (place_in l.place) (place_at x l.places)
    ≡ entered (stands_in_one x (commands_in l.commands)) (place_in l.place) (place_at x l.initial.places)
