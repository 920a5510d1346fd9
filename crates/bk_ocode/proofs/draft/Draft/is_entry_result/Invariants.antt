use Rattle.bk_ocode.proofs.Terms.{◌≡◌, false, take, is_some, list_any, uses_of}
use Rattle.bk_ocode.proofs.draft.Draft.is_entry_result.Given as goal

abbrev pub invariant-loop-entry : goal.invariant-loop-entry
invariant-loop-entry l = list_any (λ e. is_some (uses_of l.self.uses e.label).result) (take l.entry-index l.entries) ≡ false
