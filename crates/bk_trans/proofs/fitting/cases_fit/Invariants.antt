use Rattle.bk_trans.proofs.Terms.{drop, CasesFit}
use Rattle.bk_trans.proofs.fitting.cases_fit.Given as goal

abbrev pub invariant-loop-case : goal.invariant-loop-case
invariant-loop-case l = CasesFit (drop l.case-index l.cases) → CasesFit l.cases
