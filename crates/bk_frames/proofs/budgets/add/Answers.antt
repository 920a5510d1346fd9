use Rattle.bk_frames.proofs.Terms.{◌∙◌, ap, arith, get_or, List, Budget}
use Rattle.bk_frames.proofs.Ample.{dropped_behind, held_already, pushed}
use Rattle.bk_frames.proofs.budgets.add.Goals as goal

pub returns-then-is_within : goal.returns-then-is_within
returns-then-is_within c =
    let other = c.index-as_slice-i.result in
    held_already c.args.budgets.now.items c.loop-i.budgets.items c.args.budget other c.loop-i.i c.loop-i.invariant.beside (omega arith) (c.is_within.ensures c.if-is_within.true)
    (c.index-as_slice-i.is ∙ ap (λ (budgets : List Budget). get_or budgets c.loop-i.i other) c.as_slice.ensures)

pub loop-i-preserved-then-is_within-2 : goal.loop-i-preserved-then-is_within-2
loop-i-preserved-then-is_within-2 c =
    let other = c.index-as_slice-i.result in
    record {
      in_range = omega arith;
      beside = dropped_behind c.args.budget other c.args.budgets.now.items c.loop-i.budgets.items c.remove.new.self.items c.loop-i.i c.loop-i.invariant.beside (omega arith) (c.is_within-in-loop-i.ensures c.if-is_within-2.true)
          (c.index-as_slice-i.is ∙ ap (λ (budgets : List Budget). get_or budgets c.loop-i.i other) c.as_slice.ensures) c.remove.ensures.items;
    }

pub returns : goal.returns
returns c = pushed c.args.budgets.now.items c.loop-i.budgets.items c.push.new.self.items c.args.budget c.loop-i.invariant.beside c.in_ok-push.ensures.ok
