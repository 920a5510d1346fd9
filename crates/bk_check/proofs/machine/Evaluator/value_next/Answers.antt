use Rattle.bk_check.proofs.Terms.{ap, sym, Value, Outcome, tag, a_value, resumed}
use Rattle.bk_check.proofs.machine.Evaluator.value_next.Goals as goal

pub returns-in-Some-clause-comes : goal.returns-in-Some-clause-comes
returns-in-Some-clause-comes c = λ p b. ap (λ (u : Outcome Value). resumed p c.args.self.now.frames.items (tag a_value u)) (sym (c.in-Some.ensures.value p b))
