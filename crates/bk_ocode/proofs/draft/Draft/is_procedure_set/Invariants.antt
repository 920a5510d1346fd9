use Rattle.bk_ocode.proofs.Terms.{◌≡◌, true, take, list_all, jumps_set, context_in}
use Rattle.bk_ocode.proofs.draft.Draft.is_procedure_set.Given as goal

abbrev pub invariant-loop-stmt : goal.invariant-loop-stmt
invariant-loop-stmt l = list_all (jumps_set (context_in l.self)) (take l.stmt-index l.stmt-items) ≡ true
