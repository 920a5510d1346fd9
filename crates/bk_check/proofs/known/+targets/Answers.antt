use Rattle.bk_check.proofs.Terms.{◌≡◌, ◌+◌, ◌-◌, arith, expression}
use Rattle.bk_objects.specs.Views.{place_in}
use Rattle.bk_check.proofs.AtOnce.{target_turned}
use Rattle.bk_check.proofs.Resuming.{some_map}
use Rattle.bk_check.proofs.known.+targets.Goals as goal

pub known_target-returns-clause-value : goal.known_target-returns-clause-value
known_target-returns-clause-value t c =
    let one : c.args.turns ≡ c.args.turns - 1 + 1 = grind arith in
    some_map _ _ c.known_target_inside.result (λ k is p. target_turned p _ _ c.args.turns (c.args.turns - 1) k.1 (expression c.args.expr.now) (place_in k.0) one (is p)) c.known_target_inside.ensures.value
