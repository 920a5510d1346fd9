use Rattle.bk_intcode.proofs.Parts.{on_err, rules, Begins-trans}
use Rattle.bk_intcode.proofs.SegmentLemmas.{AppendsPart-line, Appends-line}
use Rattle.bk_intcode.proofs.printing.print.Goals as goal

pub returns-in_err-put_item-clause-part : goal.returns-in_err-put_item-clause-part
returns-in_err-put_item-clause-part g c = on_err c.from_residual.result
    (rw c.items-item-items.ensures.value at
    (AppendsPart-line _ _ _ c.items-item-items.result.now c.loop-item.item-index _ c.loop-item-test.true c.loop-item.invariant.taken c.in_err-put_item.ensures.part))

pub loop-item-preserved : goal.loop-item-preserved
loop-item-preserved g c = record {
  taken = Appends-line _ _ _ c.items-item-items.result.now c.loop-item.item-index _ c.loop-item-test.true c.loop-item.invariant.taken c.in_ok-put_item.ensures.takes;
  passed = Begins-trans _ _ _ c.loop-item.invariant.passed c.in_ok-put_item.ensures.passes;
  again = λ was. let stays = c.loop-item.invariant.again was in search rules;
  clear = λ _. c.in_ok-put_item.ensures.failures;
}
