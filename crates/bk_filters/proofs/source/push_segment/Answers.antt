use Rattle.bk_filters.proofs.SourceLemmas.{generated_one}
use Rattle.bk_filters.proofs.source.push_segment.Goals as goal

pub returns-in_ok-push-in-Some : goal.returns-in_ok-push-in-Some
returns-in_ok-push-in-Some g c =
    let one = generated_one c.args.segments.now.items c.in-Some.section c.in_ok-segment-in-Some.segment c.in_ok-segment-in-Some.ensures.applies in
    record { generated = rw (c.in-Some.is, c.in_ok-push-in-Some.ensures.items) one }
