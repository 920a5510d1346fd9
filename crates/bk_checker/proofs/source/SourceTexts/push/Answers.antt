use Rattle.std.proofs.Common.{rules, refl}
use Rattle.bk_checker.proofs.source.SourceTexts.push.Goals as goal

pub returns-clause-added : goal.returns-clause-added
returns-clause-added c = record {
  text = _;
  begins = refl;
  has = search rules;
  last = c.in_ok-push.ensures.items;
}
