use Rattle.bk_check.proofs.Terms.{ap, sym, ◌∙◌, expression, Value, Outcome, with, acts_at, combined, value_in, tag, a_value, resumed}
use Rattle.bk_check.proofs.machine.Evaluator.second.Goals as goal

pub returns-in-Some-clause-comes : goal.returns-in-Some-clause-comes
returns-in-Some-clause-comes c = λ p b.
    c.combined.ensures.comes p b
    ∙ ap (λ (u : Outcome Value). resumed p c.args.self.now.frames.items (tag a_value (with u (combined (acts_at (expression c.args.expr.now)) c.args.operator (value_in c.args.x))))) (sym (c.in-Some.ensures.value p b))
