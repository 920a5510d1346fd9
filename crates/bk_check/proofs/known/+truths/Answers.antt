use Rattle.bk_check.proofs.Terms.{◌≡◌, ◌+◌, ◌-◌, ap, sym, ◌∙◌, arith, Expression, expression, truth_of, full}
use Rattle.bk_tree.specs.Tree as tree
use Rattle.bk_tree.specs.declared.tree.Operator.TheVariants as o
use Rattle.bk_check.proofs.AtOnce.{known_as, truth_turned, both_known, or_else_known}
use Rattle.bk_check.proofs.Judging.{by_prefix, by_operator, by_value}
use Rattle.bk_check.proofs.Resuming.{some_map}
use Rattle.bk_check.proofs.known.+truths.Goals as goal

pub known_truth-returns-clause-value : goal.known_truth-returns-clause-value
known_truth-returns-clause-value t c =
    let one : c.args.turns ≡ c.args.turns - 1 + 1 = grind arith in
    some_map _ _ c.known_truth_inside.result (λ k is p. truth_turned p _ _ c.args.turns (c.args.turns - 1) k.1 (expression c.args.expr.now) k.0 one (is p)) c.known_truth_inside.ensures.value

pub known_truth_inside-returns-in_default-prefix-clause-value : goal.known_truth_inside-returns-in_default-prefix-clause-value
known_truth_inside-returns-in_default-prefix-clause-value t c =
    some_map _ _ c.known_judged.result (λ k is p. known_as _ _ c.args.turns _ _ k.0 k.1 (λ there w. by_prefix p c.args.expr.now c.in-Unary.at c.in-Unary.prefix c.in-Unary.operand there w c.in-Unary.is c.in_default-prefix.not-Not) (is p)) c.known_judged.ensures.value

pub known_truth_inside-returns-then-k-clause-value : goal.known_truth_inside-returns-then-k-clause-value
known_truth_inside-returns-then-k-clause-value t c =
    let a = expression c.deref-in-Both.result.now in
    let b = expression c.deref-then-k.result.now in
    let was : expression c.args.expr.now ≡ tree.binary c.in-Binary.at c.in-Binary.operator c.in-Binary.sign (expression c.in-Binary.a.value) (expression c.in-Binary.b.value) = ap expression c.in-Binary.is in
    let is : expression c.args.expr.now ≡ tree.binary c.in-Binary.at o.Both c.in-Binary.sign (expression c.in-Binary.a.value) (expression c.in-Binary.b.value) = rw c.in-Both.is at was in
    let e : tree.binary c.in-Binary.at o.Both c.in-Binary.sign a b ≡ expression c.args.expr.now =
    rw (c.deref-in-Both.ensures, c.deref-then-k.ensures) (sym is) in
    some_map _ _ c.known_truth-then-k.result (λ k is p there w n memory turns.
    ap (λ (x : Expression). truth_of p (full p) x there w) (sym e)
    ∙ both_known p _ _ c.args.turns c.in_ok-k-in-Both.k.1 k.1 c.in-Binary.at c.in-Binary.sign a b c.in_ok-k-in-Both.k.0 k.0 c.if-k.true (c.in_ok-k-in-Both.ensures.value p) (is p) there w n memory turns) c.known_truth-then-k.ensures.value

pub known_truth_inside-returns-else-k-2-clause-value : goal.known_truth_inside-returns-else-k-2-clause-value
known_truth_inside-returns-else-k-2-clause-value t c =
    let a = expression c.deref-in-Either.result.now in
    let b = expression c.deref-else-k-2.result.now in
    let was : expression c.args.expr.now ≡ tree.binary c.in-Binary.at c.in-Binary.operator c.in-Binary.sign (expression c.in-Binary.a.value) (expression c.in-Binary.b.value) = ap expression c.in-Binary.is in
    let is : expression c.args.expr.now ≡ tree.binary c.in-Binary.at o.Either c.in-Binary.sign (expression c.in-Binary.a.value) (expression c.in-Binary.b.value) = rw c.in-Either.is at was in
    let e : tree.binary c.in-Binary.at o.Either c.in-Binary.sign a b ≡ expression c.args.expr.now =
    rw (c.deref-in-Either.ensures, c.deref-else-k-2.ensures) (sym is) in
    some_map _ _ c.known_truth-else-k-2.result (λ k is p there w n memory turns.
    ap (λ (x : Expression). truth_of p (full p) x there w) (sym e)
    ∙ or_else_known p _ _ c.args.turns c.in_ok-k-in-Either.k.1 k.1 c.in-Binary.at c.in-Binary.sign a b c.in_ok-k-in-Either.k.0 k.0 c.if-k-2.false (c.in_ok-k-in-Either.ensures.value p) (is p) there w n memory turns) c.known_truth-else-k-2.ensures.value

pub known_truth_inside-returns-in_default-operator-clause-value : goal.known_truth_inside-returns-in_default-operator-clause-value
known_truth_inside-returns-in_default-operator-clause-value t c =
    some_map _ _ c.known_judged-in_default-operator.result (λ k is p. known_as _ _ c.args.turns _ _ k.0 k.1 (λ there w. rw c.in-Binary.is (by_operator p c.in-Binary.at c.in-Binary.operator c.in-Binary.sign (expression c.in-Binary.a.value) (expression c.in-Binary.b.value) there w c.in_default-operator.not-Both c.in_default-operator.not-Either)) (is p)) c.known_judged-in_default-operator.ensures.value

pub known_truth_inside-returns-in_default-clause-value : goal.known_truth_inside-returns-in_default-clause-value
known_truth_inside-returns-in_default-clause-value t c =
    some_map _ _ c.known_judged-in_default.result (λ k is p. known_as _ _ c.args.turns _ _ k.0 k.1 (λ there w. by_value p c.args.expr.now there w c.in_default.not-Parens c.in_default.not-Unary c.in_default.not-Binary) (is p)) c.known_judged-in_default.ensures.value
