use Rattle.bk_check.proofs.Terms.{◌≡◌, ap, ◌∙◌, expression, expressions_in, apply, Apply_is}
use Rattle.bk_check.proofs.machine.Evaluator.value_inside.Goals as goal

pub returns-in-Apply-clause-comes : goal.returns-in-Apply-clause-comes
returns-in-Apply-clause-comes c =
    let e : expression c.args.expr.now ≡ apply c.in-Apply.at c.in-Apply.sign (expression c.in-Apply.callee.value) (expressions_in c.in-Apply.items.items) =
    ap expression c.in-Apply.is ∙ Apply_is c.in-Apply.at c.in-Apply.sign c.in-Apply.callee c.in-Apply.items in
    rw (e, ← c.deref-in-Apply.ensures, ← c.deref-in-Apply-2.ensures.value) c.apply.ensures.comes
