use Rattle.std.proofs.Common.{rules}
use Rattle.bk_checker.proofs.source.SourceTexts.show.Goals as goal

pub returns : goal.returns
returns c = record {
  text = c.in-Some.text.now;
  is_text = c.in-Some.ensures;
  before = c.in-Some-before.before.now;
  is_before = c.in-Some-before.ensures;
  is_place = search (c.in_ok-put_place.ensures, c.new-name.ensures.items, rules);
}
