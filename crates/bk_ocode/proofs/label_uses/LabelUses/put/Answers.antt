use Rattle.bk_ocode.proofs.Terms.{ℕ, Some, ◌∙◌, sym, ap, if◌then◌else◌, arith, fun_ext, get, nat_cmp, LabelUse, use_or, uses_of, fresh, changed}
use Rattle.std.specs.Cmp.{unsigned_ties}
use Rattle.bk_ocode.proofs.Uses.{low_set, high_set}
use Rattle.bk_ocode.proofs.label_uses.LabelUses.put.Goals as goal

pub returns-then-label-len : goal.returns-then-label-len
unfolding uses_of
returns-then-label-len c =
    let s = c.reach.new.self in
    let l = c.args.label in
    let x = c.args.known in
    fun_ext (λ j. low_set s.low.items x (use_or fresh (get nat_cmp s.high j)) l j (omega arith))
    ∙ ap (λ (u : ℕ → LabelUse). changed l (λ before. x) u) c.in_ok-reach.ensures

pub returns : goal.returns
unfolding uses_of
returns c =
    let s = c.reach.new.self in
    let l = c.args.label in
    let x = c.args.known in
    let up = c.in_ok-insert.ensures.updates in
    fun_ext (λ j. high_set s.low.items (get nat_cmp s.high) (get nat_cmp c.insert.new.self) l x (omega arith) (λ n. up.0 n ∙ ap (λ b. if b then Some x else get nat_cmp s.high n) (sym (unsigned_ties l n))) j)
    ∙ ap (λ (u : ℕ → LabelUse). changed l (λ before. x) u) c.in_ok-reach.ensures
