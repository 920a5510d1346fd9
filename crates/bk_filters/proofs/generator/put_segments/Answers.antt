use Rattle.bk_filters.proofs.GenerateLemmas.{front_empty, no_more, not_read, not_generated, not_put, goes_on, too_many, arith, rules}
use Rattle.bk_filters.proofs.generator.put_segments.Goals as goal

pub loop-before-init : goal.loop-before-init
loop-before-init g c = front_empty _ _ _

pub returns-in-Ok-None : goal.returns-in-Ok-None
returns-in-Ok-None g c =
    let answers = rw c.in-Ok-None.field-0-is at c.in-Ok-None.ensures.answers in
    let applies = rw c.in-Ok-None.field-0-is at c.in-Ok-None.ensures.applies in
    record {
      puts = no_more _ _ _ _ _ _ (g.I.ByteIn.faults c.read_section.new.input) _ _ c.loop-before.invariant answers applies (λ reported. (c.in-Ok-None.ensures.ended_again reported).1)
          (λ reported. (g.met.I.ByteIn.nothing_after c.loop-before.input reported).0) c.in-Ok-None.ensures.failures;
    }

pub returns-in-Err : goal.returns-in-Err
returns-in-Err g c =
    let puts = not_read c.loop-before.before _ _ _ _ _ (g.I.ByteIn.faults c.read_section.new.input) _ _ c.loop-before.invariant c.in-Err.refused c.in-Err.ensures.answers c.in-Err.ensures.applies
    (λ reported. let no = (c.in-Err.ensures.ended_again reported).0 in cc) c.in-Err.ensures.failures in
    rw c.section_refused.ensures record { puts = puts }

pub returns-in_err-segment : goal.returns-in_err-segment
returns-in_err-segment g c =
    let answers = rw c.in-Ok-Some.field-0-is at c.in-Ok-Some.ensures.answers in
    let puts = not_generated c.loop-before.before _ _ _ _ _ (g.I.ByteIn.faults c.read_section.new.input) _ _ c.loop-before.invariant c.in-Ok-Some.section answers c.in-Ok-Some.ensures.failures in
    record { puts = search rules }

pub returns-in_default : goal.returns-in_default
returns-in_default g c =
    let answers = rw c.in-Ok-Some.field-0-is at c.in-Ok-Some.ensures.answers in
    record {
      puts = not_put c.loop-before.before _ _ _ _ _ (g.I.ByteIn.faults c.read_section.new.input) _ _ c.loop-before.invariant c.in-Ok-Some.section answers c.in-Ok-Some.ensures.failures
          c.in_ok-segment.segment c.in_ok-segment.ensures.applies c.in_ok-segment.ensures.frame _ c.print.ensures.passes c.in_default.ensures.part c.in_default.ensures.failures;
    }

pub loop-before-preserved : goal.loop-before-preserved
loop-before-preserved g c =
    let answers = rw c.in-Ok-Some.field-0-is at c.in-Ok-Some.ensures.answers in
    goes_on c.loop-before.before _ _ _ _ _ (g.I.ByteIn.faults c.read_section.new.input) _ _ c.loop-before.invariant c.in-Ok-Some.section answers c.in-Ok-Some.ensures.failures
    c.in_ok-segment.segment c.in_ok-segment.ensures.applies c.in_ok-segment.ensures.frame _ c.print.ensures.passes c.in-Ok.ensures.takes (λ reported. let no = (c.in-Ok-Some.ensures.ended_again reported).0 in let some = c.in-Ok-Some.field-0-is in cc)

pub returns : goal.returns
returns g c = record { puts = too_many c.loop-before.before _ _ _ _ _ _ c.loop-before.invariant (omega arith) }
