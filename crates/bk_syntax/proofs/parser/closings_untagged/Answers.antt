use Rattle.bk_syntax.proofs.Openings.{one_closed, none_closed, nothing_open}
use Rattle.bk_syntax.proofs.parser.closings_untagged.Goals as goal

pub returns-then-count-eq0 : goal.returns-then-count-eq0
returns-then-count-eq0 c = λ t. nothing_open t c.args.opened.now c.if-count-eq0.true

pub returns-then-is_empty : goal.returns-then-is_empty
returns-then-is_empty c = λ t. one_closed t c.args.opened.now _ _ c.if-count-eq0.false c.is_empty.ensures c.if-is_empty.true

pub returns : goal.returns
returns c = λ t. none_closed t c.args.opened.now _ _ c.if-count-eq0.false c.is_empty.ensures c.if-is_empty.false
