use Rattle.std.proofs.lemmas.Grind.{common_steps}
use Rattle.bk_source_map.proofs.Steps.{leave_some, rules, arith}
use Rattle.bk_source_map.proofs.put.put_leave.Goals as goal

pub returns-in_ok-put-in-len1-up : goal.returns-in_ok-put-in-len1-up
returns-in_ok-put-in-len1-up c = rw (leave_some c.args.decls.now c.args.at c.in-len1-up.len_at_least) (first_of (search rules, grind (arith, common_steps)))
