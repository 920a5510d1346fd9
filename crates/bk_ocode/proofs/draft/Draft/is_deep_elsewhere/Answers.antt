use Rattle.bk_ocode.proofs.Terms.{◌≡◌, ◌-◌, sym, ◌∙◌, ap, List, ℕ, rules, list_any, context_in, is_other_lab, Case}
use Rattle.bk_ocode.proofs.DraftLemmas.{own_disagrees-switch}
use Rattle.bk_ocode.proofs.draft.Draft.is_deep_elsewhere.Goals as goal

pub returns-else-is_elsewhere : goal.returns-else-is_elsewhere
returns-else-is_elsewhere c =
    let k = context_in c.args.self.now in
    let less : c.saturating_sub-less.result ≡ k.depth - 1 = search rules in
    c.is_case_elsewhere.ensures ∙ ap (λ (l : List Case). list_any (λ e. is_other_lab c.saturating_sub-less.result (k.uses e.label).setting) l) c.as_slice.ensures
    ∙ ap (λ (n : ℕ). list_any (λ e. is_other_lab n (k.uses e.label).setting) c.in-Switch.cases) less
    ∙ own_disagrees-switch k c.args.stmt.now c.in-Switch.default c.in-Switch.cases c.in-Switch.is
    (sym (ap (λ (n : ℕ). is_other_lab n (k.uses c.in-Switch.default).setting) less) ∙ sym c.is_elsewhere-in-Switch.ensures ∙ c.if-is_elsewhere.false)
