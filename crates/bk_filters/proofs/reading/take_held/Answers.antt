use Rattle.bk_filters.proofs.ReadingLemmas.{means_more}
use Rattle.bk_filters.proofs.reading.take_held.Goals as goal

pub returns-then-is_empty-clause-means : goal.returns-then-is_empty-clause-means
returns-then-is_empty-clause-means g c = means_more c.args.lexer.now.bytes c.requires
