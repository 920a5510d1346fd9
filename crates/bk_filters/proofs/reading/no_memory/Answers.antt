use Rattle.bk_filters.proofs.Terms.{inl, inr, refl, arith, [], rules, Consumes-nothing}
use Rattle.bk_filters.proofs.ReadingLemmas.{delivered_more, goes_at_start, nothing_asked, undecided_at_start}
use Rattle.bk_filters.proofs.reading.no_memory.Goals as goal

pub returns-in-Err-clause-fault : goal.returns-in-Err-clause-fault
returns-in-Err-clause-fault g c = ([], record { delivered = search (c.in-Err.ensures.keeps, rules); asked = nothing_asked; counted = omega arith; few = omega arith }, inr (refl, undecided_at_start))

pub returns-in-Ok-Some-clause-fault : goal.returns-in-Ok-Some-clause-fault
returns-in-Ok-Some-clause-fault g c =
    let one = rw c.in-Ok-Some.field-0-is at c.in-Ok-Some.ensures.delivers in
    (_, delivered_more [] _ _ _ _ c.args.taken.now c.args.taken.now (Consumes-nothing _) one goes_at_start nothing_asked (omega arith) (omega arith), inl refl)
