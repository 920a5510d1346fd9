use Rattle.bk_kit.proofs.Terms.{◌∙◌, codes, found_of, first_value-rows}
use Rattle.bk_kit.proofs.command_line.only_name_of.Goals as goal

pub returns : goal.returns
returns c = c.get_str.ensures ∙ first_value-rows (found_of c.args.matches.now) (codes "only")
