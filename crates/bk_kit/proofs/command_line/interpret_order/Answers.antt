use Rattle.bk_kit.proofs.Terms.{rules, ◌≡◌, false, None, Some, IsSome, codes, rows_of, found_of, one_of, truth_text, Bad}
use Rattle.bk_kit.proofs.LineLemmas.{limits_refused, sizes_refused, trace_refused, names_refused}
use Rattle.bk_kit.proofs.command_line.interpret_order.Goals as goal

pub returns-in_err-limits-clause-refuses : goal.returns-in_err-limits-clause-refuses
returns-in_err-limits-clause-refuses c =
    let none : c.limits_of.result ≡ None = search rules in
    let refused = limits_refused (rows_of (found_of c.args.matches.now)) c.limits_of.result none c.limits_of.ensures.given in
    let bad : c.in_err-limits.field-0.0 ≡ Bad = search rules in
    search (refused, bad, rules)

pub returns-in_err-sizes-clause-refuses : goal.returns-in_err-sizes-clause-refuses
returns-in_err-sizes-clause-refuses c =
    let none : c.sizes_asked.result ≡ None = search rules in
    let refused = sizes_refused (rows_of (found_of c.args.matches.now)) c.sizes_asked.result none c.sizes_asked.ensures.given in
    let bad : c.in_err-sizes.field-0.0 ≡ Bad = search rules in
    search (refused, bad, rules)

pub returns-in_err-trace-clause-refuses : goal.returns-in_err-trace-clause-refuses
returns-in_err-trace-clause-refuses c =
    let none : c.trace_asked.result ≡ None = search rules in
    let unasked : one_of (codes "sizes") (rows_of (found_of c.args.matches.now)) ≡ Some (truth_text false) = search rules in
    let refused = trace_refused (rows_of (found_of c.args.matches.now)) unasked c.trace_asked.result none c.trace_asked.ensures.given in
    let bad : c.in_err-trace.field-0.0 ≡ Bad = search rules in
    search (refused, bad, rules)

pub returns-then-is_some-clause-refuses : goal.returns-then-is_some-clause-refuses
returns-then-is_some-clause-refuses c =
    let unasked : one_of (codes "sizes") (rows_of (found_of c.args.matches.now)) ≡ Some (truth_text false) = search rules in
    let untraced : one_of (codes "trace") (rows_of (found_of c.args.matches.now)) ≡ Some (truth_text false) = search rules in
    let some : IsSome c.ocode_of-ocode.result = search rules in
    names_refused (rows_of (found_of c.args.matches.now)) unasked c.ocode_of-ocode.result untraced c.ocode_of-ocode.ensures some
