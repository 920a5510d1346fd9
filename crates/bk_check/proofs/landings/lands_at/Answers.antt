use Rattle.bk_check.proofs.Terms.{◌≡◌, true, false, ap, sym, ◌∙◌, command_in, Outcome, Done, the_label, has_place, alone, env_in, world, tag, done_tag, resumed}
use Rattle.bk_check.proofs.Resuming.{meets}
use Rattle.bk_check.proofs.Scoped.{land_here, land_past, stands_alone}
use Rattle.bk_check.proofs.landings.lands_at.Goals as goal

pub returns-then-has_place-clause-comes : goal.returns-then-has_place-clause-comes
returns-then-has_place-clause-comes c =
    let is : has_place (the_label c.args.label.now) (env_in c.args.env) (command_in c.args.command.now) ≡ true = sym c.has_place.ensures ∙ c.if-has_place.true in
    let cs = alone (command_in c.args.command.now) in
    meets c.alone.result _ (λ b. world c.alone.new.self b) _ _
    (λ p b. ap (λ (u : Outcome Done). resumed p c.args.m.now.frames.items (tag done_tag u)) (land_here p cs (env_in c.args.env) c.args.label.now (world c.args.m.now b) (stands_alone (the_label c.args.label.now) (env_in c.args.env) (command_in c.args.command.now) true is))) c.alone.ensures.comes

pub returns-clause-comes : goal.returns-clause-comes
returns-clause-comes c =
    let is : has_place (the_label c.args.label.now) (env_in c.args.env) (command_in c.args.command.now) ≡ false = sym c.has_place.ensures ∙ c.if-has_place.false in
    λ p b. ap (λ (u : Outcome Done). resumed p c.args.m.now.frames.items (tag done_tag u)) (land_past p (alone (command_in c.args.command.now)) (env_in c.args.env) c.args.label.now (world c.args.m.now b) (stands_alone (the_label c.args.label.now) (env_in c.args.env) (command_in c.args.command.now) false is))
