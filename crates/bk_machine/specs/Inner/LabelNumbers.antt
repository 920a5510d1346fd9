-- What a table of labels shows.
use Rattle.std.specs.Prelude.{ℕ, nat_eq, unwrap_or}
use Rattle.indexmap.specs.IndexMap.{get}
use Rattle.bk_machine.specs.declared.labels.Labels.{Labels}

abbrev pub number_of : Labels → ℕ → ℕ
number_of labels label = unwrap_or (get nat_eq labels.numbers label) labels.end
