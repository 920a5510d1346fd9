use Rattle.bk_kit.proofs.HintLemmas.{some_placed_in}
use Rattle.bk_kit.proofs.checker.placed_given_up.Goals as goal

pub returns-clause-placed : goal.returns-clause-placed
returns-clause-placed c = λ old new all. some_placed_in old new _ _ all c.shown_given_up.ensures.placed
