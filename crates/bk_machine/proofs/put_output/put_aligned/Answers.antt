use Rattle.bk_base.specs.Decimal.{spelling}
use Rattle.bk_base.specs.Format.{aligned, width}
use Rattle.bk_machine.proofs.TellSteps.{part_front, puts_behind, puts_given, rules, ◌≡◌, ℕ, ◌-◌, List, ◌++◌, length, replicate, refl, signed}
use Rattle.bk_machine.proofs.put_output.put_aligned.Goals as goal

-- blanks, and then the number
aligned_is : (number w count : ℕ) (text : List ℕ) → text ≡ spelling (signed number) → count ≡ width w - length text
    → aligned number w ≡ replicate count 32 ++ text
aligned_is number w count text is blanks = rw (blanks, is) refl

pub returns-in_err-put_blanks-clause-puts : goal.returns-in_err-put_blanks-clause-puts
returns-in_err-put_blanks-clause-puts g c =
    let text : c.as_bytes-text.result.now ≡ spelling (signed c.args.number) = search rules in
    let blanks : c.saturating_sub.result ≡ width c.args.width - length c.as_bytes-text.result.now = search rules in
    let part = part_front _ _ (aligned c.args.number c.args.width) _ _ (aligned_is _ _ _ _ text blanks) c.in_err-put_blanks.ensures.puts in
    search rules

pub returns-clause-puts : goal.returns-clause-puts
returns-clause-puts g c =
    let text : c.as_bytes-text.result.now ≡ spelling (signed c.args.number) = search rules in
    let blanks : c.saturating_sub.result ≡ width c.args.width - length c.as_bytes-text.result.now = search rules in
    puts_behind _ _ _ (aligned c.args.number c.args.width) _ _ c.put_all.result (aligned_is _ _ _ _ text blanks) c.in_ok-put_blanks.ensures.puts
    (puts_given _ _ _ c.put_all.result c.put_all.ensures.takes c.put_all.ensures.part)
