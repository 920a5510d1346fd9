use Rattle.bk_trans.proofs.Terms.{drop, EntriesFit}
use Rattle.bk_trans.proofs.fitting.entries_fit.Given as goal

abbrev pub invariant-loop-entry : goal.invariant-loop-entry
invariant-loop-entry l = EntriesFit (drop l.entry-index l.entries) → EntriesFit l.entries
