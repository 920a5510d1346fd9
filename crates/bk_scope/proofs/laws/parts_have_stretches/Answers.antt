use Rattle.bk_scope.proofs.Lists.{meanings_append, words_append}
use Rattle.bk_scope.proofs.laws.parts_have_stretches.Goals as goal

pub returns : goal.returns
returns c = λ xs ys. (meanings_append xs ys, words_append xs ys)
