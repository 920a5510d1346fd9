use Rattle.bk_ocode.proofs.Terms.{◌≡◌, true, take, list_all, uses_of, is_entry}
use Rattle.bk_ocode.proofs.draft.Draft.are_procedures.Given as goal

abbrev pub invariant-loop-entry : goal.invariant-loop-entry
invariant-loop-entry l = list_all (λ e. is_entry (uses_of l.self.uses e.label).setting) (take l.entry-index l.entries) ≡ true
