use Rattle.bk_frames.proofs.Lemmas.{some_commands}
use Rattle.bk_syntax.proofs.declarations.in_head.Goals as goal

pub returns-in_default : goal.returns-in_default
returns-in_default c = some_commands c.args.commands.now c.in_default.len_at_least
