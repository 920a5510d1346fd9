use Rattle.bk_ocode.proofs.Terms.{◌≡◌, false, take, is_some, list_any, uses_of}
use Rattle.bk_ocode.proofs.draft.Draft.is_case_result.Given as goal

abbrev pub invariant-loop-case : goal.invariant-loop-case
invariant-loop-case l = list_any (λ c. is_some (uses_of l.self.uses c.label).result) (take l.case-index l.cases) ≡ false
