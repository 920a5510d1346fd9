use Rattle.bk_check.proofs.Terms.{◌≡◌, ◌+◌, ◌-◌, ap, sym, ◌∙◌, arith, Expression, expression, value_of, full, value_in}
use Rattle.bk_tree.specs.Tree as tree
use Rattle.bk_tree.specs.declared.tree.Prefix.TheVariants as q
use Rattle.bk_check.proofs.AtOnce.{value_turned, contents_known}
use Rattle.bk_check.proofs.Resuming.{some_map}
use Rattle.bk_check.proofs.known.+known.Goals as goal

pub known-returns-clause-value : goal.known-returns-clause-value
known-returns-clause-value t c =
    let one : c.args.turns ≡ c.args.turns - 1 + 1 = grind arith in
    some_map _ _ c.known_inside.result (λ k is p. value_turned p _ _ c.args.turns (c.args.turns - 1) k.1 (expression c.args.expr.now) (value_in k.0) one (is p)) c.known_inside.ensures.value

pub known_operation-returns-in_ok-x-in-Contents-clause-value : goal.known_operation-returns-in_ok-x-in-Contents-clause-value
known_operation-returns-in_ok-x-in-Contents-clause-value t c = λ p there w n memory turns.
    let inside = expression c.deref-in-Contents.result.now in
    let was : expression c.args.expr.now ≡ tree.unary c.in-Unary.at c.in-Unary.prefix (expression c.in-Unary.operand.value) = ap expression c.in-Unary.is in
    let is : expression c.args.expr.now ≡ tree.unary c.in-Unary.at q.Contents (expression c.in-Unary.operand.value) = rw c.in-Contents.is at was in
    let e : tree.unary c.in-Unary.at q.Contents inside ≡ expression c.args.expr.now =
    rw c.deref-in-Contents.ensures (sym is) in
    ap (λ (x : Expression). value_of p (full p) x there w) (sym e)
    ∙ contents_known p _ _ c.args.turns c.in_ok-k-in-Contents.k.1 c.in-Unary.at inside (value_in c.in_ok-k-in-Contents.k.0) (value_in c.in_ok-x-in-Contents.x) (c.in_ok-k-in-Contents.ensures.value p) (λ l w m. sym (c.read.ensures l w m) ∙ c.in_ok-x-in-Contents.ensures l w) there w n memory turns
