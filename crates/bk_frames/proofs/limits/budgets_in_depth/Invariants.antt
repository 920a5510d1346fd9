use Rattle.bk_frames.proofs.Terms.{◌≡◌, false, take, stack, is_tight, AreBudgets}
use Rattle.bk_frames.proofs.limits.budgets_in_depth.Given as goal

abbrev pub invariant-loop-frame : goal.invariant-loop-frame
invariant-loop-frame l = record {
  tight : l.tight ≡ is_tight (stack l.frames.decls.items (take l.frame-index l.frames.above.items));
  budgets : AreBudgets false (stack l.frames.decls.items (take l.frame-index l.frames.above.items)) l.budgets.items;
}
