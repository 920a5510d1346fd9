use Rattle.bk_check.proofs.Terms.{Bool, ap, sym, refl, ◌∙◌, command_in, Outcome, Done, done, either, for_rounds_of, Tested, tested, full, value_in, env_in, world, tag, done_tag, resumed}
use Rattle.bk_check.proofs.Resuming.{meets}
use Rattle.bk_check.proofs.fors.first_round.Goals as goal

pub returns-then-truth-clause-comes : goal.returns-then-truth-clause-comes
returns-then-truth-clause-comes c = meets c.for_round.result _ (λ b. world c.for_round.new.m b) _ _
    (λ p b. ap (λ (u : Outcome Done). resumed p c.args.m.now.frames.items (tag done_tag u)) (sym (ap (λ (x : Bool). either x (λ w. for_rounds_of (full p) c.args.run.name.now.at (command_in c.args.run.body.now) c.args.run.object (value_in c.args.run.limit) c.args.run.step (env_in c.args.run.env) w) done (world c.args.m.now b)) c.if-truth.true) ∙ sym (ap (λ (t : Tested). tested c.args.run.name.now.at (λ w. for_rounds_of (full p) c.args.run.name.now.at (command_in c.args.run.body.now) c.args.run.object (value_in c.args.run.limit) c.args.run.step (env_in c.args.run.env) w) t (world c.args.m.now b)) c.in-Holds.is) ∙ c.try_limit.ensures c.args.run.name.now.at (world c.args.m.now b) (λ w. for_rounds_of (full p) c.args.run.name.now.at (command_in c.args.run.body.now) c.args.run.object (value_in c.args.run.limit) c.args.run.step (env_in c.args.run.env) w) refl)) c.for_round.ensures.comes

pub returns-in-Holds-clause-comes : goal.returns-in-Holds-clause-comes
returns-in-Holds-clause-comes c = λ p b. ap (λ (u : Outcome Done). resumed p c.args.m.now.frames.items (tag done_tag u)) (sym (ap (λ (x : Bool). either x (λ w. for_rounds_of (full p) c.args.run.name.now.at (command_in c.args.run.body.now) c.args.run.object (value_in c.args.run.limit) c.args.run.step (env_in c.args.run.env) w) done (world c.args.m.now b)) c.if-truth.false) ∙ sym (ap (λ (t : Tested). tested c.args.run.name.now.at (λ w. for_rounds_of (full p) c.args.run.name.now.at (command_in c.args.run.body.now) c.args.run.object (value_in c.args.run.limit) c.args.run.step (env_in c.args.run.env) w) t (world c.args.m.now b)) c.in-Holds.is) ∙ c.try_limit.ensures c.args.run.name.now.at (world c.args.m.now b) (λ w. for_rounds_of (full p) c.args.run.name.now.at (command_in c.args.run.body.now) c.args.run.object (value_in c.args.run.limit) c.args.run.step (env_in c.args.run.env) w) refl)

pub returns-in-DivideByZero-clause-comes : goal.returns-in-DivideByZero-clause-comes
returns-in-DivideByZero-clause-comes c = λ p b. ap (λ (u : Outcome Done). resumed p c.args.m.now.frames.items (tag done_tag u)) (sym (ap (λ (t : Tested). tested c.args.run.name.now.at (λ w. for_rounds_of (full p) c.args.run.name.now.at (command_in c.args.run.body.now) c.args.run.object (value_in c.args.run.limit) c.args.run.step (env_in c.args.run.env) w) t (world c.args.m.now b)) c.in-DivideByZero.is) ∙ c.try_limit.ensures c.args.run.name.now.at (world c.args.m.now b) (λ w. for_rounds_of (full p) c.args.run.name.now.at (command_in c.args.run.body.now) c.args.run.object (value_in c.args.run.limit) c.args.run.step (env_in c.args.run.env) w) refl)

pub returns-clause-comes : goal.returns-clause-comes
returns-clause-comes c = λ p b. ap (λ (u : Outcome Done). resumed p c.args.m.now.frames.items (tag done_tag u)) (sym (ap (λ (t : Tested). tested c.args.run.name.now.at (λ w. for_rounds_of (full p) c.args.run.name.now.at (command_in c.args.run.body.now) c.args.run.object (value_in c.args.run.limit) c.args.run.step (env_in c.args.run.env) w) t (world c.args.m.now b)) c.in-Undefined.is) ∙ c.try_limit.ensures c.args.run.name.now.at (world c.args.m.now b) (λ w. for_rounds_of (full p) c.args.run.name.now.at (command_in c.args.run.body.now) c.args.run.object (value_in c.args.run.limit) c.args.run.step (env_in c.args.run.env) w) refl)
