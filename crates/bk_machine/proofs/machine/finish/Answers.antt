use Rattle.bk_machine.proofs.Terms.{◌≡◌, false, true}
use Rattle.bk_machine.proofs.Blaming.{blames_passed, blames_failed}
use Rattle.bk_machine.proofs.machine.finish.Goals as goal

pub returns-in-Ok-clause-cause : goal.returns-in-Ok-clause-cause
returns-in-Ok-clause-cause g c = λ reads reads' low before.
    let sound : g.O.ByteOut.faults c.args.out.now ≡ 1 → ⊥ = λ failed. (let differ : false ≡ true = (rw c.in-Ok.is at (c.flush.ensures.failed_again failed)).0 in cc) in
    let none : g.O.ByteOut.faults c.flush.new.self ≡ 0 = rw c.in-Ok.is at c.flush.ensures.failures in
    blames_passed reads reads' _ _ c.args.end sound none before

pub returns-in-Err-clause-cause : goal.returns-in-Err-clause-cause
returns-in-Err-clause-cause g c = λ reads reads' low before.
    let failed : g.O.ByteOut.faults c.flush.new.self ≡ 1 = rw c.in-Err.is at c.flush.ensures.failures in
    blames_failed reads reads' _ _ c.args.end low failed before
