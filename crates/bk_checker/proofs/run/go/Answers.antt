use Rattle.bk_checker.proofs.Terms.{rules, refl, sym, ◌∙◌, arith, Begins-refl, Begins-trans, Blames}
use Rattle.bk_checker.proofs.Running.{moves_none, moves_then, reaches_still, reaches_after, exchanged_none, if_err}
use Rattle.bk_checker.proofs.Progress.{fewer}
use Rattle.bk_checker.proofs.run.go.Goals as goal

pub turns-init : goal.turns-init
turns-init g c = record { moves = moves_none _ _ _ _; passes = Begins-refl _; unblamed = (refl, refl) }

pub steps-init : goal.steps-init
steps-init g c = record { moves = c.turns.invariant.moves; passes = c.turns.invariant.passes; unblamed = c.turns.invariant.unblamed; within = omega arith }

pub returns-then-is_over-clause-moves : goal.returns-then-is_over-clause-moves
returns-then-is_over-clause-moves g c = c.steps.invariant.moves

pub returns-then-is_over-clause-passes : goal.returns-then-is_over-clause-passes
returns-then-is_over-clause-passes g c = c.steps.invariant.passes

pub returns-then-is_over-clause-sound : goal.returns-then-is_over-clause-sound
returns-then-is_over-clause-sound g c = c.steps.invariant.unblamed

pub returns-then-is_too_deep-clause-limits : goal.returns-then-is_too_deep-clause-limits
returns-then-is_too_deep-clause-limits g c = λ is. record { last = c.steps.next; moves = c.steps.invariant.moves; is_deep = rw c.if-is_too_deep.true at c.is_too_deep.ensures }

pub returns-then-is_too_deep-clause-part : goal.returns-then-is_too_deep-clause-part
returns-then-is_too_deep-clause-part g c = reaches_after _ _ _ _ _ _ _ _ c.steps.invariant.moves (reaches_still _ _ _ _ _ (exchanged_none _))

pub returns-then-is_too_deep-clause-passes : goal.returns-then-is_too_deep-clause-passes
returns-then-is_too_deep-clause-passes g c = c.steps.invariant.passes

pub returns-then-is_too_deep-clause-cause : goal.returns-then-is_too_deep-clause-cause
returns-then-is_too_deep-clause-cause g c = c.steps.invariant.unblamed

pub returns-in_err-next-clause-limits : goal.returns-in_err-next-clause-limits
returns-in_err-next-clause-limits g c = search (c.in_err-next.ensures.within, c.from_residual.ensures, rules)

pub returns-in_err-next-clause-part : goal.returns-in_err-next-clause-part
returns-in_err-next-clause-part g c = if_err c.from_residual.result (reaches_after _ _ _ _ _ _ _ _ c.steps.invariant.moves c.in_err-next.ensures.part)

pub returns-in_err-next-clause-passes : goal.returns-in_err-next-clause-passes
returns-in_err-next-clause-passes g c = Begins-trans _ _ _ c.steps.invariant.passes c.turn.ensures.passes

pub returns-in_err-next-clause-cause : goal.returns-in_err-next-clause-cause
returns-in_err-next-clause-cause g c =
    let same = c.steps.invariant.unblamed in
    let blamed : Blames c.in_err-next.field-0.0 (g.I.ByteIn.faults c.args.input.now) (g.I.ByteIn.faults c.turn.new.input) (g.O.ByteOut.faults c.args.out.now) (g.O.ByteOut.faults c.turn.new.out) =
    rw same.0 at (rw same.1 at c.in_err-next.ensures.cause) in
    search (blamed, c.from_residual.ensures, rules)

pub steps-preserved : goal.steps-preserved
steps-preserved g c = record {
  moves = moves_then _ _ _ _ _ _ _ _ _ _ c.steps.invariant.moves c.in_ok-next.ensures.moves;
  passes = Begins-trans _ _ _ c.steps.invariant.passes c.turn.ensures.passes;
  unblamed = (c.in_ok-next.ensures.sound.0 ∙ c.steps.invariant.unblamed.0, c.in_ok-next.ensures.sound.1 ∙ c.steps.invariant.unblamed.1);
  within = omega (arith, (c.in_ok-next.ensures.falls (sym c.is_over.ensures ∙ c.if-is_over.false)).0, c.steps.invariant.within);
}

pub steps-smaller : goal.steps-smaller
steps-smaller g c = fewer c.steps.m c.turn.new.m c.steps.next c.in_ok-next.next c.turns.m.turns c.steps-test.true (c.in_ok-next.ensures.falls (sym c.is_over.ensures ∙ c.if-is_over.false))

pub turns-preserved : goal.turns-preserved
turns-preserved g c = record { moves = c.steps.invariant.moves; passes = c.steps.invariant.passes; unblamed = c.steps.invariant.unblamed }
