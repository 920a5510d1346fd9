use Rattle.bk_checker.proofs.Running.{nothing_yet, exchanged_none, if_err}
use Rattle.bk_checker.proofs.checker.check.Goals as goal

pub returns-in_err-remarks-clause-part : goal.returns-in_err-remarks-clause-part
returns-in_err-remarks-clause-part g c = if_err c.from_residual.result (nothing_yet _ _ _ _ (exchanged_none _))

pub returns-in_err-program-clause-part : goal.returns-in_err-program-clause-part
returns-in_err-program-clause-part g c = if_err c.from_residual-in_err-program.result (nothing_yet _ _ _ _ (exchanged_none _))
