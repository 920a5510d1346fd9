use Rattle.bk_words.proofs.Parts.{on_none}
use Rattle.bk_words.proofs.HeldNumbers.{long_number}
use Rattle.bk_words.proofs.words.Gathered.number.Goals as goal

pub returns-in_err-bytes-clause-none : goal.returns-in_err-bytes-clause-none
returns-in_err-bytes-clause-none c = on_none c.from_residual.result (λ word held. long_number word (c.in_err-bytes.ensures.long word held))
