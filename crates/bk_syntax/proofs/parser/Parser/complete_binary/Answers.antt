use Rattle.bk_syntax.proofs.Terms.{◌≡◌, rules, ap, ◌∙◌, expression, binary, last, size_if}
use Rattle.bk_syntax.proofs.parser.Parser.complete_binary.Goals as goal

pub invariant_of-pair-clause-shares : goal.invariant_of-pair-clause-shares
invariant_of-pair-clause-shares c =
    let a = expression c.args.left.value in
    let o = c.args.operator in
    let same : expression c.in-Have.sized.expr ≡ expression c.in_ok-right.right.value = search rules in
    c.shared_size-shared.ensures c.at-at.result c.args.sign a ∙ ap (λ y. size_if (last (binary c.at-at.result o c.args.sign a y))) same
