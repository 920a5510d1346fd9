use Rattle.bk_intcode.proofs.Terms.{◌≡◌, ◌+◌, Bool, List, ℕ, sym, subst, length, Consumes, AtEnd, IsNext}
use Rattle.bk_intcode.specs.declared.words.Found.TheVariants.{Item}
use Rattle.bk_intcode.proofs.words.next_item.Goals as goal

pub returns-in-Ok-clause-gives : goal.returns-in-Ok-clause-gives
returns-in-Ok-clause-gives g c =
    let q = rw c.in-Some.is at c.in_ok-held.ensures.gives in
    subst (λ (last : Bool). (given : List ℕ) × Consumes (g.I.ByteIn.left c.args.input.now) (g.I.ByteIn.left c.next_word.new.input) given
    × (c.next_word.new.taken ≡ c.args.taken.now + length given) × IsNext (Item c.in-Ok.item last) given (AtEnd (g.I.ByteIn.ended c.next_word.new.input) c.next_word.new.taken))
    (sym c.is_last.ensures) (q.0, q.1, q.2, (q.3.0, c.in-Ok.ensures.item q.3.0.first q.3.0.rest q.3.1))

pub returns-in-Err-clause-gives : goal.returns-in-Err-clause-gives
returns-in-Err-clause-gives g c =
    let q = rw c.in-Some.is at c.in_ok-held.ensures.gives in
    (q.0, q.1, q.2, (c.in-Some.held.last, q.3.0, c.in-Err.ensures.fault q.3.0.first q.3.0.rest q.3.1))
