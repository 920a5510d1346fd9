use Rattle.bk_filters.proofs.Terms.{[], sym, append-nil, AppendsPart-kept, sizes_line}
use Rattle.bk_filters.proofs.ReportLemmas.{on_err}
use Rattle.bk_filters.proofs.runner.report.Goals as goal

pub returns-clause-part : goal.returns-clause-part
returns-clause-part g c =
    let line = sizes_line c.args.sizes in
    on_err c.flush.result (AppendsPart-kept _ _ _ line [] line (sym (append-nil line)) c.in_ok-put_sizes.ensures.takes c.flush.ensures.keeps)
