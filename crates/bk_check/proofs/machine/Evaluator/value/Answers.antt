use Rattle.bk_check.proofs.Terms.{◌≡◌, ◌<◌, ap, sym, ◌∙◌, arith, Value, expression, World, Outcome, value_of, full, env_in, world, tag, a_value, resumed, full_value, turn_left, turn_none}
use Rattle.bk_check.proofs.Resuming.{meets}
use Rattle.bk_check.proofs.machine.Evaluator.value.Goals as goal

pub returns-clause-comes : goal.returns-clause-comes
returns-clause-comes c =
    let lt : 0 < c.args.self.now.turns = grind arith in
    meets c.value_inside.result _ (λ b. world c.value_inside.new.self b) _ _
    (λ p b. ap (λ (u : Outcome Value). resumed p c.args.self.now.frames.items (tag a_value u)) (turn_left _ (world c.args.self.now b) (λ (w : World). value_of p (full p) (expression c.args.expr.now) (env_in c.args.env) w) lt ∙ sym (full_value p (expression c.args.expr.now) (env_in c.args.env) (world c.args.self.now b)))) c.value_inside.ensures.comes

pub returns-then-self-eq0-clause-comes : goal.returns-then-self-eq0-clause-comes
returns-then-self-eq0-clause-comes c =
    let none : c.args.self.now.turns ≡ 0 = grind arith in
    rw c.acts_at.ensures (λ p b. ap (λ (u : Outcome Value). resumed p c.args.self.now.frames.items (tag a_value u)) (turn_none (world c.args.self.now b) (λ (w : World). value_of p (full p) (expression c.args.expr.now) (env_in c.args.env) w) none ∙ sym (full_value p (expression c.args.expr.now) (env_in c.args.env) (world c.args.self.now b))))
