use Rattle.bk_ocode.proofs.Terms.{ℕ, List, ◌∙◌, ap, arith, fun_ext, get, nat_cmp, LabelUse, use_or, uses_of, fresh, slice_get}
use Rattle.bk_ocode.proofs.Uses.{lowered}
use Rattle.bk_ocode.proofs.label_uses.LabelUses.lower.Goals as goal

pub returns-clause-uses : goal.returns-clause-uses
unfolding uses_of
returns-clause-uses c =
    let s = c.args.self.now in
    let h : ℕ → LabelUse = λ n. use_or fresh (get nat_cmp s.high n) in
    fun_ext (λ j. ap (λ (ys : List LabelUse). use_or (h j) (slice_get ys j)) c.in_ok-push.ensures.items ∙ lowered h s.low.items c.of_high-known.result _ (omega arith) c.of_high-known.ensures j)
