use Rattle.bk_check.proofs.Terms.{◌≡◌, ◌<◌, ◌∷◌, ap, arith, rules, length, Outcome, Done, full, value_in, env_in, world, tag, done_tag, resumed}
use Rattle.bk_check.proofs.AtOnce.{assigned_first}
use Rattle.bk_check.proofs.Resuming.{meets}
use Rattle.bk_check.proofs.commands.assigned.Goals as goal

pub returns-in-Some-at_once-clause-comes : goal.returns-in-Some-at_once-clause-comes
returns-in-Some-at_once-clause-comes c =
    let first = c.in-Some-split_first.first.now in
    let rest = c.in-Some-split_first.rest.now in
    let split : c.args.values.now ≡ first ∷ rest = search rules in
    let some : 0 < length c.args.dests.now = grind arith in
    meets c.put_first.result _ (λ b. world c.put_first.new.m b) _ _
    (λ p b. ap (λ (u : Outcome Done). resumed p c.args.m.now.frames.items (tag done_tag u)) (assigned_first (full p) (value_in c.in-Some-at_once.k.0) c.args.dests.now c.args.values.now first rest (env_in c.args.there) (env_in c.args.env) (world c.args.m.now b) _ some split (c.in-Some-at_once.ensures.value p b) c.in-Some-at_once.ensures.lasting)) c.put_first.ensures.comes
