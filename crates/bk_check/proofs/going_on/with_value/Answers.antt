use Rattle.bk_check.proofs.Terms.{ap, sym, ◌∙◌, expression, expressions_in, Value, Outcome, gives, value_in, env_in, OnValue, program_in, world, tag, a_value, resumed, value_goes}
use Rattle.bk_check.proofs.Resuming.{meets_for}
use Rattle.bk_check.proofs.Arguments.{argument_then}
use Rattle.bk_check.proofs.going_on.with_value.Goals as goal

pub returns-in_ok-push-in-Argument-clause-comes : goal.returns-in_ok-push-in-Argument-clause-comes
returns-in_ok-push-in-Argument-clause-comes c =
    let p = program_in c.args.program.now in
    meets_for p c.arguments.result _ (λ b. world c.arguments.new.self b) _ _
    (λ b. ap (λ (u : Outcome Value). resumed p c.args.m.now.frames.items (tag a_value u))
    (argument_then p c.in-Argument.at c.in-Argument.before.items c.push.new.self.items c.args.x (expressions_in c.in-Argument.items.now) (env_in c.in-Argument.here) (expression c.in-Argument.callee.now) (env_in c.in-Argument.env) (world c.args.m.now b) c.in_ok-push-in-Argument.ensures.items)
    ∙ ap (λ (k : OnValue). resumed p c.args.m.now.frames.items (value_goes p k (gives (value_in c.args.x) (world c.args.m.now b)))) (sym c.in-Argument.is)) c.arguments.ensures.comes
