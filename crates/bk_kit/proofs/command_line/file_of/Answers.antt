use Rattle.bk_kit.proofs.LineLemmas.{text_of, text_given, codes, found_of, first_value-rows}
use Rattle.bk_kit.proofs.command_line.file_of.Goals as goal

pub returns-clause-reads : goal.returns-clause-reads
returns-clause-reads c = text_of c.get_str.result _ _ c.get_str.ensures (first_value-rows (found_of c.args.matches.now) (codes "file"))

pub returns-clause-given : goal.returns-clause-given
returns-clause-given c name there = text_given c.get_str.result _ _ name c.get_str.ensures (first_value-rows (found_of c.args.matches.now) (codes "file")) there
