use Rattle.bk_syntax.proofs.Terms.{◌≡◌, ◌+◌, ◌-◌, take, sym, ap, ◌∙◌, arith, bars, stack, stack_take}
use Rattle.bk_syntax.proofs.expressions.is_barred.Goals as goal

pub returns-in-Some : goal.returns-in-Some
returns-in-Some c =
    let xs = c.args.frames.now.above.items in
    let ds = c.args.frames.now.decls.items in
    let back : c.loop-i.i - 1 + 1 ≡ c.loop-i.i = omega arith in
    let on = stack_take ds xs (c.loop-i.i - 1) c.index.result.now (omega arith) c.index.ensures in
    sym (c.in-Some.ensures (stack ds (take (c.loop-i.i - 1) xs))) ∙ ap bars (sym on) ∙ ap (λ n. bars (stack ds (take n xs))) back ∙ c.loop-i.invariant.same

pub loop-i-preserved : goal.loop-i-preserved
loop-i-preserved c =
    let xs = c.args.frames.now.above.items in
    let ds = c.args.frames.now.decls.items in
    let back : c.loop-i.i - 1 + 1 ≡ c.loop-i.i = omega arith in
    let on = stack_take ds xs (c.loop-i.i - 1) c.index.result.now (omega arith) c.index.ensures in
    record {
      in_range = omega arith;
      same = sym (c.in-None.ensures (stack ds (take (c.loop-i.i - 1) xs))) ∙ ap bars (sym on) ∙ ap (λ n. bars (stack ds (take n xs))) back ∙ c.loop-i.invariant.same;
    }
