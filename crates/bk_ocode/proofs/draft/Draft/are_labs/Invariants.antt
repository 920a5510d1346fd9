use Rattle.bk_ocode.proofs.Terms.{◌≡◌, true, take, list_all, uses_of, is_lab_from}
use Rattle.bk_ocode.proofs.draft.Draft.are_labs.Given as goal

abbrev pub invariant-loop-case : goal.invariant-loop-case
invariant-loop-case l = list_all (λ c. is_lab_from l.self.start (uses_of l.self.uses c.label).setting) (take l.case-index l.cases) ≡ true
