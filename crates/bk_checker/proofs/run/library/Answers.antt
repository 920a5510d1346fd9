use Rattle.bk_checker.proofs.Terms.{◌≡◌, refl, sym, ap, ◌∙◌, World, remembering, Effect, outcome_in, tag, a_value, Next as n, Thing as h}
use Rattle.bk_checker.proofs.Running.{library_still, library_takes, library_writes, reaches_still, reaches_part, exchanged_none, exchanged_still, exchanged_took, if_err, of_err, of_ok}
use Rattle.bk_checker.proofs.run.library.Goals as goal

pub returns-in_err-status-clause-part : goal.returns-in_err-status-clause-part
returns-in_err-status-clause-part g c = if_err c.from_residual.result (λ p. reaches_still p _ _ _ _ (exchanged_none _))

pub returns-in_err-word-in-TakesByte-clause-part : goal.returns-in_err-word-in-TakesByte-clause-part
returns-in_err-word-in-TakesByte-clause-part g c =
    if_err c.from_residual-in_err-word-in-TakesByte.result (λ p. reaches_still p _ _ _ _ (let still = c.in_err-word-in-TakesByte.ensures.still in exchanged_still _ _ still.0 still.1 still.2))

pub returns-then-is_err-clause-part : goal.returns-then-is_err-clause-part
returns-then-is_err-clause-part g c = λ p.
    let law = λ (x : World) (e : x.memory ≡ c.args.m.now.store). ap (λ (y : Effect). outcome_in c.args.at y (remembering c.perform.new.store x)) (sym c.in-Writes.is) ∙ (rw c.deref.ensures.value at c.in_ok-status.ensures c.args.at x e) in
    let part = of_err c.put_all.result (sym c.is_err.ensures.value ∙ c.if-is_err.true) c.put_all.ensures.part in
    reaches_part p c.args.m.now c.args.at c.args.routine c.args.values.now c.perform.new.store c.in-Writes.text _ _ part.part part.rest law
    (ap (λ l. l) (sym c.deref-in-Writes.ensures.value) ∙ part.whole) (exchanged_took _ _ _ _ part.part part.appends)

pub returns-in-Stops-clause-moves : goal.returns-in-Stops-clause-moves
returns-in-Stops-clause-moves g c = λ p.
    library_still p c.args.m.now _ c.args.at c.args.routine c.args.values.now c.in_ok-status.field-0 refl (λ b. refl) ((rw c.deref.ensures.value at c.in_ok-status.ensures) c.args.at) (n.Status c.in-Stops.status) _
    (λ x. ap (λ (y : Effect). tag a_value (outcome_in c.args.at y x)) (sym c.in-Stops.is))

pub returns-in_ok-word-in-TakesByte-clause-moves : goal.returns-in_ok-word-in-TakesByte-clause-moves
returns-in_ok-word-in-TakesByte-clause-moves g c = λ p.
    library_takes p c.args.m.now _ c.args.at c.args.routine c.args.values.now c.in_ok-status.field-0 refl (λ b. refl) ((rw c.deref.ensures.value at c.in_ok-status.ensures) c.args.at) c.in_ok-word-in-TakesByte.word _ _ c.in-TakesByte.is c.in_ok-word-in-TakesByte.ensures.answered

pub returns-else-is_err-clause-moves : goal.returns-else-is_err-clause-moves
returns-else-is_err-clause-moves g c = λ p.
    let takes = of_ok c.put_all.result (sym c.is_err.ensures.value ∙ c.if-is_err.false) c.put_all.ensures.takes in
    library_writes p c.args.m.now _ c.args.at c.args.routine c.args.values.now c.in_ok-status.field-0 refl (λ b. refl) ((rw c.deref.ensures.value at c.in_ok-status.ensures) c.args.at) c.in-Writes.text _ _ c.in-Writes.is
    (exchanged_took _ _ _ _ c.in-Writes.text.items (rw c.deref-in-Writes.ensures.value at takes))

pub returns-in-Gives-clause-moves : goal.returns-in-Gives-clause-moves
returns-in-Gives-clause-moves g c = λ p.
    library_still p c.args.m.now _ c.args.at c.args.routine c.args.values.now c.in_ok-status.field-0 refl (λ b. refl) ((rw c.deref.ensures.value at c.in_ok-status.ensures) c.args.at) (n.Gives (h.Value c.in-Gives.x)) _
    (λ x. ap (λ (y : Effect). tag a_value (outcome_in c.args.at y x)) (sym c.in-Gives.is))

pub returns-in-Undefined-clause-moves : goal.returns-in-Undefined-clause-moves
returns-in-Undefined-clause-moves g c = λ p.
    library_still p c.args.m.now _ c.args.at c.args.routine c.args.values.now c.in_ok-status.field-0 refl (λ b. refl) ((rw c.deref.ensures.value at c.in_ok-status.ensures) c.args.at) _ _
    (λ x. ap (λ (y : Effect). tag a_value (outcome_in c.args.at y x)) (sym c.in-Undefined.is))
