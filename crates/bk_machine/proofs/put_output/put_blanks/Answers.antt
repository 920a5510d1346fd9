use Rattle.bk_machine.proofs.TellSteps.{part_before, rules, ◌≡◌, ℕ, ◌+◌, ◌-◌, ◌<◌, ◌++◌, arith, sym, ◌∙◌, ap, replicate, replicate-append-replicate, Keeps}
use Rattle.bk_machine.proofs.put_output.put_blanks.Goals as goal

-- n blanks are i and the others
split : (n i : ℕ) → i < n → replicate {A = ℕ} n 32 ≡ replicate i 32 ++ replicate (n - i) 32
split n i below =
    let whole : n ≡ i + (n - i) = omega arith in
    ap (λ k. replicate {A = ℕ} k 32) whole ∙ sym (replicate-append-replicate i (n - i) 32)

pub returns-in_err-put-clause-puts : goal.returns-in_err-put-clause-puts
returns-in_err-put-clause-puts g c =
    let kept : Keeps (g.O.ByteOut.taken c.loop-i.out) (g.O.ByteOut.taken c.put.new.self) = search rules in
    let part = part_before _ _ _ (replicate c.args.count 32) (replicate c.loop-i.i 32) (replicate (c.args.count - c.loop-i.i) 32)
    (split _ _ c.loop-i-test.true) c.loop-i.invariant.0 kept in
    search rules
