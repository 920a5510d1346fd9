use Rattle.bk_ocode.proofs.Terms.{◌≡◌, false, take, list_any, uses_of, is_other_lab}
use Rattle.bk_ocode.proofs.draft.Draft.is_case_elsewhere.Given as goal

abbrev pub invariant-loop-case : goal.invariant-loop-case
invariant-loop-case l = list_any (λ c. is_other_lab l.depth (uses_of l.self.uses c.label).setting) (take l.case-index l.cases) ≡ false
