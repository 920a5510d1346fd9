use Rattle.bk_machine.proofs.RunSteps.{answered_end, answered_byte, rules, ◌≡◌, true, None, Some, Ok, refl}
use Rattle.bk_machine.proofs.run.ask.Goals as goal

pub returns-in-Ok-None-clause-answered : goal.returns-in-Ok-None-clause-answered
returns-in-Ok-None-clause-answered g c =
    let is : c.next.result ≡ Ok None = rw c.in-Ok-None.field-0-is at c.in-Ok-None.is in
    let reported : g.I.ByteIn.ended c.next.new.self ≡ true = rw c.in-Ok-None.field-0-is at c.in-Ok-None.ensures.end in
    answered_end _ _ _ (search rules) (rw c.in-Ok-None.field-0-is at c.in-Ok-None.ensures.delivers) reported (g.met.I.ByteIn.nothing_after c.next.new.self reported).1
    (λ byte rest held. let first : c.next.result ≡ Ok (Some byte) = (c.next.ensures.held_first byte rest held).0 in cc)

pub returns-in-Ok-Some-clause-answered : goal.returns-in-Ok-Some-clause-answered
returns-in-Ok-Some-clause-answered g c =
    let is : c.next.result ≡ Ok (Some c.in-Ok-Some.byte) = rw c.in-Ok-Some.field-0-is at c.in-Ok-Some.is in
    rw c.from.ensures (answered_byte _ _ _ (search rules) c.in-Ok-Some.byte (rw c.in-Ok-Some.field-0-is at c.in-Ok-Some.ensures.delivers)
    (rw c.in-Ok-Some.field-0-is at c.in-Ok-Some.ensures.end) (λ reported. let end : c.next.result ≡ Ok None = c.next.ensures.end_again reported in cc)
    (λ byte rest held.
    let first = c.next.ensures.held_first byte rest held in
    let given : c.next.result ≡ Ok (Some byte) = first.0 in
    let same : byte ≡ c.in-Ok-Some.byte = cc in (same, first.1))
    (c.next.new.self, refl))
