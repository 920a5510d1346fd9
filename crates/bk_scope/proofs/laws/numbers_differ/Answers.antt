use Rattle.bk_scope.proofs.Numbers.{numbers_differ}
use Rattle.bk_scope.proofs.laws.numbers_differ.Goals as goal

pub returns : goal.returns
returns c = numbers_differ
