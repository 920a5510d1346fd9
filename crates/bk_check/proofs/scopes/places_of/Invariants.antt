use Rattle.bk_check.proofs.Terms.{◌≡◌, ℕ, List, length}
use Rattle.bk_check.specs.Places.{place_at, place_from, first_place}
use Rattle.bk_check.proofs.scopes.places_of.Given as goal

abbrev pub invariant-entering : goal.invariant-entering
invariant-entering l = (x : List ℕ) → first_place (place_at x l.places) (place_from x l.objects l.rest) ≡ place_from x 0 l.commands

abbrev pub decreases-entering : goal.decreases-entering
decreases-entering l = length l.rest
