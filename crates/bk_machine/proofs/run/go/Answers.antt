use Rattle.bk_machine.proofs.RunSteps.{paused_none, finished_ends, went_on, went_more, ◌≡◌, ◌≢◌, ◌+◌, ◌-◌, arith, refl, sym, ◌∙◌, Begins-refl, Begins-trans, StepLimit, StoreLimit, Ends, step, padded}
use Rattle.bk_machine.proofs.KeptSteps.{padded_all}
use Rattle.bk_machine.proofs.run.go.Goals as goal

pub loop-end-init : goal.loop-end-init
loop-end-init g c = record { done = 0; count = omega arith; words = refl; paused = paused_none _ _ _ _; passes = Begins-refl _; unblamed = refl }

pub returns-in-Ends-clause-went : goal.returns-in-Ends-clause-went
returns-in-Ends-clause-went g c =
    let before = c.loop-end.invariant in
    rw (sym before.count, c.go_kept.ensures.words)
    (went_on _ before.done c.loop-end.left _ _ _ _ _ _ _ before.paused c.go_kept.ensures.passes c.in-Ends.end _ _ (rw c.in-Ends.is at c.go_kept.ensures.stops))

pub returns-then-not-grow-clause-went : goal.returns-then-not-grow-clause-went
returns-then-not-grow-clause-went g c =
    let before = c.loop-end.invariant in
    let beyond = rw c.in-Beyond.is at c.go_kept.ensures.stops in
    let n = before.done + beyond.done in
    let kept = c.go_kept.new.board.kept in
    let all : padded c.loop-end.board.words kept.items ≡ kept.items = padded_all c.loop-end.board.words kept.items (omega (arith, kept.ok.0, c.if-not-grow.ensures.full, c.go_kept.ensures.words)) in
    let outside : step (padded c.loop-end.board.words kept.items) c.go_kept.new.board.registers ≡ Ends StoreLimit = rw all beyond.outside in
    let other : StoreLimit ≢ StepLimit = λ same. cc in
    let count : c.args.steps ≡ (n + 1) + (c.in-Beyond.rest - 1) = omega (arith, before.count, beyond.parts, beyond.some) in
    rw count (went_more _ (n + 1) (c.in-Beyond.rest - 1) _ _ _ _ StoreLimit kept.items c.go_kept.new.board.registers other
    (went_on _ n 1 _ _ _ _ _ _ _ (went_on _ before.done beyond.done _ _ _ _ _ _ _ before.paused c.go_kept.ensures.passes StepLimit _ _ beyond.paused) (Begins-refl _)
    StoreLimit kept.items c.go_kept.new.board.registers (finished_ends _ _ _ StoreLimit _ outside)))

pub loop-end-preserved : goal.loop-end-preserved
loop-end-preserved g c =
    let before = c.loop-end.invariant in
    let beyond = rw c.in-Beyond.is at c.go_kept.ensures.stops in
    record {
      done = before.done + beyond.done;
      count = omega (arith, before.count, beyond.parts);
      words = c.grow.ensures.words ∙ c.go_kept.ensures.words ∙ before.words;
      paused = rw (c.grow.ensures.store, c.grow.ensures.registers, c.go_kept.ensures.words)
          (went_on _ before.done beyond.done _ _ _ _ _ _ _ before.paused c.go_kept.ensures.passes StepLimit _ _ beyond.paused);
      passes = Begins-trans _ _ _ before.passes c.go_kept.ensures.passes;
      unblamed = (rw c.in-Beyond.is at c.go_kept.ensures.cause) ∙ before.unblamed;
    }
