use Rattle.bk_filters.proofs.FilterCode.{filters_write_code}
use Rattle.bk_filters.proofs.laws.filters_write_code.Goals as goal

pub returns : goal.returns
returns c = filters_write_code c.scheme_is_accepted.ensures c.one_saying.ensures
