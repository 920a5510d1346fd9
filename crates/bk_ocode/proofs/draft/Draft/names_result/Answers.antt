use Rattle.bk_ocode.proofs.Terms.{sym, ◌∙◌, ap, List, is_some, list_any, context_in, Case, GlobalEntry}
use Rattle.bk_ocode.proofs.DraftLemmas.{result_named-switch, result_named-globals}
use Rattle.bk_ocode.proofs.draft.Draft.names_result.Goals as goal

pub returns-else-is_result : goal.returns-else-is_result
returns-else-is_result c =
    let k = context_in c.args.self.now in
    c.is_case_result.ensures ∙ ap (λ (l : List Case). list_any (λ e. is_some (k.uses e.label).result) l) c.as_slice.ensures
    ∙ result_named-switch k c.args.stmt.now c.in-Switch.default c.in-Switch.cases c.in-Switch.is (sym c.is_result-in-Switch.ensures ∙ c.if-is_result.false)

pub returns-in-Globals : goal.returns-in-Globals
returns-in-Globals c =
    let k = context_in c.args.self.now in
    c.is_entry_result.ensures ∙ ap (λ (l : List GlobalEntry). list_any (λ e. is_some (k.uses e.label).result) l) c.as_slice-in-Globals.ensures
    ∙ result_named-globals k c.args.stmt.now c.in-Globals.entries c.in-Globals.is
