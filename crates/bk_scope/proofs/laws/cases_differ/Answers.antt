use Rattle.bk_scope.proofs.Repeated.{cases_differ}
use Rattle.bk_scope.proofs.laws.cases_differ.Goals as goal

pub returns : goal.returns
returns c = cases_differ
