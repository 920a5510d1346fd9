use Rattle.bk_kit.proofs.Cuts.{hints_on, HintsAt, rules, refl, ◌++◌}
use Rattle.bk_kit.proofs.cut.with_line.Goals as goal

pub returns-in-Ok-clause-hints : goal.returns-in-Ok-clause-hints
returns-in-Ok-clause-hints g c = λ old are.
    let read = c.in-Ok.ensures in
    let hints : HintsAt c.in-Some.field-0.start (c.in-Some.field-0.text.items ++ read.0) c.args.refusal.fault c.hints_of.result.items = search rules in
    hints_on old _ _ c.args.refusal _ c.in-Some.field-0 read.0 are c.in-Some.is read.1.delivered hints refl

pub returns-clause-hints : goal.returns-clause-hints
returns-clause-hints g c = λ old are.
    let read = c.in-Err.ensures in
    let hints : HintsAt c.in-Some.field-0.start (c.in-Some.field-0.text.items ++ read.0) c.no_hint.result.fault c.no_hint.result.hints.items = rw c.no_hint.ensures.hints tt in
    hints_on old _ _ c.args.refusal _ c.in-Some.field-0 read.0 are c.in-Some.is read.1.delivered hints c.no_hint.ensures.cut
