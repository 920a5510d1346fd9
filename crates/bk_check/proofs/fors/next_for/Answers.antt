use Rattle.bk_check.proofs.Terms.{ap, sym, refl, ◌∙◌, World, Outcome, Done, with, for_test, stepped, value_in, world, tag, done_tag, resumed, further_for}
use Rattle.bk_check.specs.declared.fors.Stepped.{Stepped}
use Rattle.bk_check.proofs.Resuming.{meets}
use Rattle.bk_check.proofs.fors.next_for.Goals as goal

pub returns-in-Done-clause-comes : goal.returns-in-Done-clause-comes
returns-in-Done-clause-comes c = meets c.test_again.result _ (λ b. world c.test_again.new.m b) _ _
    (λ p b. ap (λ (u : Outcome Done). resumed p c.args.m.now.frames.items (tag done_tag (with u (λ (d : Done) (w : World). for_test c.args.run.name.now.at c.args.run.object (value_in c.args.run.limit) c.args.run.step (further_for p c.args.run) w)))) (sym (ap (λ (t : Stepped). stepped c.args.run.name.now.at t c.add_step.new.store (world c.args.m.now b)) c.in-Done.is) ∙ c.add_step.ensures c.args.run.name.now.at (world c.args.m.now b) refl)) c.test_again.ensures.comes

pub returns-in-DivideByZero-clause-comes : goal.returns-in-DivideByZero-clause-comes
returns-in-DivideByZero-clause-comes c = λ p b. ap (λ (u : Outcome Done). resumed p c.args.m.now.frames.items (tag done_tag (with u (λ (d : Done) (w : World). for_test c.args.run.name.now.at c.args.run.object (value_in c.args.run.limit) c.args.run.step (further_for p c.args.run) w)))) (sym (ap (λ (t : Stepped). stepped c.args.run.name.now.at t c.add_step.new.store (world c.args.m.now b)) c.in-DivideByZero.is) ∙ c.add_step.ensures c.args.run.name.now.at (world c.args.m.now b) refl)

pub returns-clause-comes : goal.returns-clause-comes
returns-clause-comes c = λ p b. ap (λ (u : Outcome Done). resumed p c.args.m.now.frames.items (tag done_tag (with u (λ (d : Done) (w : World). for_test c.args.run.name.now.at c.args.run.object (value_in c.args.run.limit) c.args.run.step (further_for p c.args.run) w)))) (sym (ap (λ (t : Stepped). stepped c.args.run.name.now.at t c.add_step.new.store (world c.args.m.now b)) c.in-Undefined.is) ∙ c.add_step.ensures c.args.run.name.now.at (world c.args.m.now b) refl)
