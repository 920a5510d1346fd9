use Rattle.bk_ocode.proofs.Terms.{◌∙◌, ap, not, ◌&&◌, List, list_all, context_in, is_entry, data_set, GlobalEntry}
use Rattle.bk_ocode.proofs.DraftLemmas.{label_not_set-globals}
use Rattle.bk_ocode.proofs.draft.Draft.lacks_label.Goals as goal

pub returns-in-Globals : goal.returns-in-Globals
returns-in-Globals c =
    let k = context_in c.args.self.now in
    let before = c.args.self.now.stmts.items in
    ap not (c.is_section_set.ensures ∙ ap (λ (l : List GlobalEntry). list_all (data_set k) before && list_all (λ e. is_entry (k.uses e.label).setting) l) c.as_slice.ensures)
    ∙ label_not_set-globals before k c.args.stmt.now c.in-Globals.entries c.in-Globals.is
