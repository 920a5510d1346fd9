use Rattle.bk_trans.proofs.Terms.{drop, AllFit}
use Rattle.bk_trans.proofs.fitting.stmts_fit.Given as goal

abbrev pub invariant-loop-stmt : goal.invariant-loop-stmt
invariant-loop-stmt l = AllFit (drop l.stmt-index l.stmts) → AllFit l.stmts
