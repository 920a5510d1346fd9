use Rattle.bk_scope.proofs.Terms.{ap, sym, ◌∙◌, expression}
use Rattle.bk_scope.specs.FirstFault.{first_fault}
use Rattle.bk_scope.proofs.Worded.{told_behind}
use Rattle.bk_scope.proofs.constant.+constant_of.Goals as goal

-- src/constant.rt:20:1
pub returns-in_ok-y-in-Binary-clause-wrong : goal.returns-in_ok-y-in-Binary-clause-wrong
returns-in_ok-y-in-Binary-clause-wrong t c =
    rw c.in-Binary.is
    (c.infixed.ensures.wrong ∙ told_behind c.args.table.now c.args.procedure c.in-Binary.at c.in-Binary.sign c.in-Binary.operator (expression c.in-Binary.left.value) (expression c.in-Binary.right.value) _ _
    c.in_ok-x-in-Binary.x c.in_ok-y-in-Binary.y (first_fault c.args.first.now) _ _ (ap expression c.deref-in-Binary.ensures) (ap expression c.deref-then-is_infix_of_constants.ensures) c.in_ok-x-in-Binary.ensures.word c.in_ok-x-in-Binary.ensures.wrong c.in_ok-y-in-Binary.ensures.word c.in_ok-y-in-Binary.ensures.wrong
    (sym c.is_infix_of_constants.ensures ∙ c.if-is_infix_of_constants.true))
