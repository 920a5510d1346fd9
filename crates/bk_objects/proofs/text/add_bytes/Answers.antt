use Rattle.std.proofs.Common.{◌≡◌, suc, ◌+◌, ◌-◌, ◌∙◌, sym, arith}
use Rattle.bk_objects.proofs.Texts.{bytes_more, bytes_cut, cause_more, cause_cut}
use Rattle.bk_objects.proofs.text.add_bytes.Goals as goal

pub returns-in-Err-clause-adds : goal.returns-in-Err-clause-adds
returns-in-Err-clause-adds c =
    let one : c.args.count - c.loop-i.i ≡ suc (c.args.count - (c.loop-i.i + 1)) = omega arith in
    sym (c.loop-i.invariant.0 ∙ bytes_cut _ _ _ _ _ _ one c.in-Err.ensures.byte)

pub returns-in-Err-clause-why : goal.returns-in-Err-clause-why
returns-in-Err-clause-why c =
    let one : c.args.count - c.loop-i.i ≡ suc (c.args.count - (c.loop-i.i + 1)) = omega arith in
    c.in-Err.ensures.why ∙ sym (c.loop-i.invariant.1 ∙ cause_cut _ _ _ _ _ one c.in-Err.ensures.byte)

pub loop-i-preserved : goal.loop-i-preserved
loop-i-preserved c =
    let one : c.args.count - c.loop-i.i ≡ suc (c.args.count - (c.loop-i.i + 1)) = omega arith in (
      rw c.in_ok-push-in-Ok.ensures.items (c.loop-i.invariant.0 ∙ bytes_more _ _ _ _ _ _ _ one c.in-Ok.ensures.byte),
      c.loop-i.invariant.1 ∙ cause_more _ _ _ _ _ _ one c.in-Ok.ensures.byte,
    )
