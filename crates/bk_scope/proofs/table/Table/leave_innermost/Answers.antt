use Rattle.bk_scope.proofs.Terms.{ℕ, Option, ◌++◌, ◌∙◌, sym, ap, subst, rules, IsSome, option_to_list}
use Rattle.bk_scope.proofs.TableSteps.{IsTable-pop, IsSome-innermost}
use Rattle.bk_scope.proofs.table.Table.leave_innermost.Goals as goal

pub unwrap-requires : goal.unwrap-requires
unwrap-requires c =
    let known = IsSome-innermost c.self.inside c.pop.new.self.items c.unwrap-entry.result c.self.invariant
    (c.pop.ensures.items ∙ ap (λ r. c.pop.new.self.items ++ option_to_list r) c.unwrap-entry.ensures) in
    let P : Option (Option ℕ) → Type 0 = IsSome in
    let found = subst P (sym c.get_mut.ensures.value) known in
    search rules

pub invariant_of-self : goal.invariant_of-self
invariant_of-self c =
    let items = c.pop.ensures.items ∙ ap (λ r. c.pop.new.self.items ++ option_to_list r) c.unwrap-entry.ensures in
    IsTable-pop c.self.inside (record { innermost = c.get_mut.follows.lender c.unwrap-entry.result.hidden; bindings = c.pop.new.self }) c.unwrap-entry.result c.self.invariant items
    ((c.get_mut.follows.holds c.unwrap-entry.result.hidden).3 (IsSome-innermost c.self.inside c.pop.new.self.items c.unwrap-entry.result c.self.invariant items))
