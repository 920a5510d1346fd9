use Rattle.bk_check.proofs.Terms.{◌≡◌, ◌<◌, ap, sym, ◌∙◌, arith, Target, expression, World, Outcome, target_of, full, env_in, world, tag, a_target, resumed, full_target, turn_left, turn_none}
use Rattle.bk_check.proofs.Resuming.{meets}
use Rattle.bk_check.proofs.machine.Evaluator.target.Goals as goal

pub returns-clause-comes : goal.returns-clause-comes
returns-clause-comes c =
    let lt : 0 < c.args.self.now.turns = grind arith in
    meets c.target_inside.result _ (λ b. world c.target_inside.new.self b) _ _
    (λ p b. ap (λ (u : Outcome Target). resumed p c.args.self.now.frames.items (tag a_target u)) (turn_left _ (world c.args.self.now b) (λ (w : World). target_of (full p) (expression c.args.expr.now) (env_in c.args.env) w) lt ∙ sym (full_target p (expression c.args.expr.now) (env_in c.args.env) (world c.args.self.now b)))) c.target_inside.ensures.comes

pub returns-then-self-eq0-clause-comes : goal.returns-then-self-eq0-clause-comes
returns-then-self-eq0-clause-comes c =
    let none : c.args.self.now.turns ≡ 0 = grind arith in
    rw c.acts_at.ensures (λ p b. ap (λ (u : Outcome Target). resumed p c.args.self.now.frames.items (tag a_target u)) (turn_none (world c.args.self.now b) (λ (w : World). target_of (full p) (expression c.args.expr.now) (env_in c.args.env) w) none ∙ sym (full_target p (expression c.args.expr.now) (env_in c.args.env) (world c.args.self.now b))))
