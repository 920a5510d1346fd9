use Rattle.bk_check.proofs.Terms.{ap, sym, ◌∙◌, expression, Value, World, Outcome, with, Environment, past, acts_at, combined, full, value_in, env_in, world, tag, a_value, resumed}
use Rattle.bk_check.proofs.Resuming.{meets, past_none}
use Rattle.bk_check.proofs.machine.Evaluator.operands.Goals as goal

pub returns-in-Some-clause-comes : goal.returns-in-Some-clause-comes
returns-in-Some-clause-comes c =
    let a = expression c.args.a.now in
    let e = expression c.args.b.now in
    let env = env_in c.args.env in
    meets c.second.result _ (λ b. world c.second.new.self b) _ _
    (λ p b.
    ap (λ (there : Environment). resumed p c.args.self.now.frames.items (tag a_value (with ((full p).value e there (record (world c.args.self.now b) { turns = c.in-Some.k.1 })) (combined (acts_at (expression c.args.expr.now)) c.args.operator (value_in c.in-Some.k.0))))) (sym (past_none a env c.in-Some.ensures.lasting))
    ∙ ap (λ (u : Outcome Value). resumed p c.args.self.now.frames.items (tag a_value (with u (λ (x : Value) (w : World). with ((full p).value e (past a env) w) (combined (acts_at (expression c.args.expr.now)) c.args.operator x))))) (sym (c.in-Some.ensures.value p b))) c.second.ensures.comes
