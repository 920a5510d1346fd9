use Rattle.bk_kit.proofs.Terms.{rules, ◌≡◌, None, rows_of, found_of, Bad}
use Rattle.bk_kit.proofs.LineLemmas.{run_trace_refused}
use Rattle.bk_kit.proofs.command_line.run_order.Goals as goal

pub returns-in_err-trace-clause-refuses : goal.returns-in_err-trace-clause-refuses
returns-in_err-trace-clause-refuses c =
    let none : c.trace_asked.result ≡ None = search rules in
    let refused = run_trace_refused (rows_of (found_of c.args.matches.now)) c.trace_asked.result none c.trace_asked.ensures.given in
    let bad : c.in_err-trace.field-0.0 ≡ Bad = search rules in
    search (refused, bad, rules)
