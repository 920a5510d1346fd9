use Rattle.bk_grammar.proofs.SameTags.{same_case}
use Rattle.bk_grammar.proofs.spelling.same_tag.Goals as goal

pub returns : goal.returns
returns c = same_case c.eq_ignore_ascii_case.result c.args.a.now c.args.b.now c.eq_ignore_ascii_case.ensures.test
