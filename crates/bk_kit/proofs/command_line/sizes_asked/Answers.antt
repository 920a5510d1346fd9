use Rattle.bk_kit.proofs.LineLemmas.{truth_of, truth_given, codes, found_of, one_text-rows}
use Rattle.bk_kit.proofs.command_line.sizes_asked.Goals as goal

pub returns-clause-reads : goal.returns-clause-reads
returns-clause-reads c = truth_of _ _ _ c.get_one.result (one_text-rows (found_of c.args.matches.now) (codes "sizes")) c.get_one.ensures.none c.get_one.ensures.value

pub returns-clause-given : goal.returns-clause-given
returns-clause-given c asked is = truth_given _ _ _ c.get_one.result asked (one_text-rows (found_of c.args.matches.now) (codes "sizes")) is c.get_one.ensures.value
