use Rattle.std.specs.String.{string_bytes}
use Rattle.bk_kit.proofs.Cuts.{text_hints, output, ReportsCheck, file_read, rules, refl}
use Rattle.bk_kit.proofs.service.serve_check.Goals as goal

pub returns : goal.returns
returns g c =
    let checked = c.check_source-answer.ensures in
    let reads = c.with_whole_line-answer.ensures (g.F.ByteIn.left c.args.file.now) (text_hints _ _ _ _ _ _ _ checked.checks) in
    let reported : ReportsCheck (string_bytes c.args.name.now) c.with_whole_line-answer.result (output g.E.ByteOut c.args.err.now) (output g.E.ByteOut c.report_check.new.err) = search rules in (
      c.check_source-answer.result,
      c.with_whole_line-answer.result,
      file_read g.F.ByteIn c.args.file.now c.check_source-answer.new.source,
      refl,
      checked.checks,
      checked.passes,
      checked.delivered,
      checked.read_fails,
      reads,
      c.report_check.ensures.status,
      reported,
    )
