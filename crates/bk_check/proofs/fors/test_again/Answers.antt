use Rattle.bk_check.proofs.Terms.{Bool, ap, sym, refl, ◌∙◌, Outcome, Done, done, either, Tested, tested, world, tag, done_tag, resumed, further_for}
use Rattle.bk_check.proofs.Resuming.{meets}
use Rattle.bk_check.proofs.fors.test_again.Goals as goal

pub returns-then-truth-clause-comes : goal.returns-then-truth-clause-comes
returns-then-truth-clause-comes c = meets c.further_round.result _ (λ b. world c.further_round.new.m b) _ _
    (λ p b. ap (λ (u : Outcome Done). resumed p c.args.m.now.frames.items (tag done_tag u)) (sym (ap (λ (x : Bool). either x (further_for p c.args.run) done (world c.args.m.now b)) c.if-truth.true) ∙ sym (ap (λ (t : Tested). tested c.args.run.name.now.at (further_for p c.args.run) t (world c.args.m.now b)) c.in-Holds.is) ∙ c.try_limit.ensures c.args.run.name.now.at (world c.args.m.now b) (further_for p c.args.run) refl)) c.further_round.ensures.comes

pub returns-in-Holds-clause-comes : goal.returns-in-Holds-clause-comes
returns-in-Holds-clause-comes c = λ p b. ap (λ (u : Outcome Done). resumed p c.args.m.now.frames.items (tag done_tag u)) (sym (ap (λ (x : Bool). either x (further_for p c.args.run) done (world c.args.m.now b)) c.if-truth.false) ∙ sym (ap (λ (t : Tested). tested c.args.run.name.now.at (further_for p c.args.run) t (world c.args.m.now b)) c.in-Holds.is) ∙ c.try_limit.ensures c.args.run.name.now.at (world c.args.m.now b) (further_for p c.args.run) refl)

pub returns-in-DivideByZero-clause-comes : goal.returns-in-DivideByZero-clause-comes
returns-in-DivideByZero-clause-comes c = λ p b. ap (λ (u : Outcome Done). resumed p c.args.m.now.frames.items (tag done_tag u)) (sym (ap (λ (t : Tested). tested c.args.run.name.now.at (further_for p c.args.run) t (world c.args.m.now b)) c.in-DivideByZero.is) ∙ c.try_limit.ensures c.args.run.name.now.at (world c.args.m.now b) (further_for p c.args.run) refl)

pub returns-clause-comes : goal.returns-clause-comes
returns-clause-comes c = λ p b. ap (λ (u : Outcome Done). resumed p c.args.m.now.frames.items (tag done_tag u)) (sym (ap (λ (t : Tested). tested c.args.run.name.now.at (further_for p c.args.run) t (world c.args.m.now b)) c.in-Undefined.is) ∙ c.try_limit.ensures c.args.run.name.now.at (world c.args.m.now b) (further_for p c.args.run) refl)
