use Rattle.bk_words.proofs.Parts.{on_none}
use Rattle.bk_words.proofs.HeldNumbers.{long_within}
use Rattle.bk_words.proofs.words.Gathered.within.Goals as goal

pub returns-in_err-bytes-clause-none : goal.returns-in_err-bytes-clause-none
returns-in_err-bytes-clause-none c = on_none c.from_residual.result (λ word held n low high. long_within c.args.most c.requires word (c.in_err-bytes.ensures.long word held) n high)
