use Rattle.bk_scope.proofs.Counting.{few_numbers}
use Rattle.bk_scope.proofs.laws.takes_few_numbers.Goals as goal

pub returns : goal.returns
returns c = few_numbers
