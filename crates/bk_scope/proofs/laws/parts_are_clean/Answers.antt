use Rattle.bk_scope.proofs.Parts.{first_clean, second_clean}
use Rattle.bk_scope.proofs.laws.parts_are_clean.Goals as goal

pub returns : goal.returns
returns c = λ cs xs ys h. (first_clean cs xs ys h, second_clean cs xs ys h)
