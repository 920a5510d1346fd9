use Rattle.std.proofs.Common.{inl, inr}
use Rattle.bk_words.specs.Numerals.{no_number-outside}
use Rattle.bk_words.proofs.numbers.within.Goals as goal

pub returns-then-n-least-clause-none : goal.returns-then-n-least-clause-none
returns-then-n-least-clause-none c = no_number-outside c.in_ok-n.n c.args.least c.args.most _ c.in_ok-n.ensures.found.0 c.requires c.in_ok-n.ensures.found.1 (inl c.if-n-least.true)

pub returns-then-n-most-clause-none : goal.returns-then-n-most-clause-none
returns-then-n-most-clause-none c = no_number-outside c.in_ok-n.n c.args.least c.args.most _ c.in_ok-n.ensures.found.0 c.requires c.in_ok-n.ensures.found.1 (inr c.if-n-most.true)
