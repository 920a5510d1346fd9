use Rattle.bk_check.proofs.Terms.{◌≡◌, length}
use Rattle.bk_check.specs.Places.{place_from}
use Rattle.bk_check.proofs.scopes.place_among.Given as goal

abbrev pub invariant-passing : goal.invariant-passing
invariant-passing l = place_from l.label l.objects l.rest ≡ place_from l.label 0 l.commands

abbrev pub decreases-passing : goal.decreases-passing
decreases-passing l = length l.rest
