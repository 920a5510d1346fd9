use Rattle.bk_check.proofs.Terms.{ap, expression, a_truth, tag, resumed, env_in, world}
use Rattle.bk_check.proofs.Judging.{by_operator, by_value}
use Rattle.bk_check.proofs.Resuming.{meets}
use Rattle.bk_check.proofs.machine.Evaluator.truth_inside.Goals as goal

pub returns-in_default-operator-clause-comes : goal.returns-in_default-operator-clause-comes
returns-in_default-operator-clause-comes c =
    rw c.in-Binary.is (meets c.judged-in_default-operator.result _ (λ b. world c.judged-in_default-operator.new.self b) _ _
    (λ p b. ap (λ u. resumed p c.args.self.now.frames.items (tag a_truth u))
    (by_operator p c.in-Binary.at c.in-Binary.operator c.in-Binary.sign (expression c.in-Binary.a.value) (expression c.in-Binary.b.value) (env_in c.args.env) (world c.args.self.now b) c.in_default-operator.not-Both c.in_default-operator.not-Either))
    (rw c.in-Binary.is at c.judged-in_default-operator.ensures.comes))

pub returns-in_default-clause-comes : goal.returns-in_default-clause-comes
returns-in_default-clause-comes c =
    meets c.judged-in_default.result _ (λ b. world c.judged-in_default.new.self b) _ _
    (λ p b. ap (λ u. resumed p c.args.self.now.frames.items (tag a_truth u))
    (by_value p c.args.expr.now (env_in c.args.env) (world c.args.self.now b) c.in_default.not-Parens c.in_default.not-Unary c.in_default.not-Binary)) c.judged-in_default.ensures.comes
