use Rattle.bk_kit.proofs.Terms.{line_told, output, sym, ◌∙◌}
use Rattle.bk_kit.proofs.status.report_fault_line.Goals as goal

pub returns-then-is_ok : goal.returns-then-is_ok
returns-then-is_ok g c =
    let put = c.put_line in
    let flush = c.flush-passed in
    line_told _ (output g.E.ByteOut c.args.err.now) (output g.E.ByteOut put.new.out) (output g.E.ByteOut flush.new.self)
    put.result flush.result (sym c.is_ok.ensures.value ∙ c.if-is_ok.true) put.ensures.takes put.ensures.passes
    flush.ensures.keeps flush.ensures.passes flush.ensures.all flush.ensures.failures
