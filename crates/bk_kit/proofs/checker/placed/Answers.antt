use Rattle.bk_kit.proofs.HintLemmas.{placed_in}
use Rattle.bk_kit.proofs.checker.placed.Goals as goal

pub returns-clause-placed : goal.returns-clause-placed
returns-clause-placed c = λ old new all. placed_in old new _ c.shown.result.stop all c.shown.ensures.placed
