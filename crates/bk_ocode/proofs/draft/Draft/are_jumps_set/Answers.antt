use Rattle.bk_ocode.proofs.Terms.{sym, ◌∙◌, ap, List, list_all, context_in, is_lab_from, Case}
use Rattle.bk_ocode.proofs.DraftLemmas.{jumps_set-switch}
use Rattle.bk_ocode.proofs.draft.Draft.are_jumps_set.Goals as goal

pub returns-then-is_lab : goal.returns-then-is_lab
returns-then-is_lab c =
    let k = context_in c.args.self.now in
    c.are_labs.ensures ∙ ap (λ (l : List Case). list_all (λ e. is_lab_from k.start (k.uses e.label).setting) l) c.as_slice.ensures
    ∙ jumps_set-switch k c.args.stmt.now c.in-Switch.default c.in-Switch.cases c.in-Switch.is (sym c.is_lab-in-Switch.ensures ∙ c.if-is_lab.true)
