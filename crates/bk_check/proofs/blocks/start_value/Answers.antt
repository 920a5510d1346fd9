use Rattle.bk_check.proofs.Terms.{◌≡◌, ℕ, ◌∷◌, ap, ◌∙◌, expression, starts_in, Outcome, Done, gives, with, Environment, objects, following, past, starts, full, letters_in, env_in, world, tag, done_tag, resumed, started_then}
use Rattle.bk_check.proofs.Resuming.{meets}
use Rattle.bk_check.proofs.Lets.{value_then}
use Rattle.bk_check.proofs.blocks.start_value.Goals as goal

pub returns-clause-comes : goal.returns-clause-comes
returns-clause-comes c =
    let e = expression c.args.value.now in
    let is = starts_in c.args.others.now in
    let names = letters_in c.args.names.now in
    let h : env_in c.in_ok-following.following ≡ past e (env_in c.args.here) =
    c.in_ok-following.ensures ∙ ap (λ (n : ℕ). following n (env_in c.in_ok-again.field-0)) c.in_ok-count.ensures ∙ ap (λ (x : Environment). following (objects e) x) c.in_ok-again.ensures in
    meets c.first_value.result _ (λ b. world c.first_value.new.self b) _ _
    (λ p b. ap (λ (x : Environment). resumed p c.args.m.now.frames.items (tag done_tag (with ((full p).value e (env_in c.args.here) (world c.args.m.now b)) (λ v w. with (with (starts (full p) is x w) (λ vs w. gives (v ∷ vs) w)) (λ vs w. started_then p c.args.rest.value names vs w))))) h
    ∙ ap (λ (u : Outcome Done). resumed p c.args.m.now.frames.items (tag done_tag u)) (value_then p e is (env_in c.args.here) (λ vs w. started_then p c.args.rest.value names vs w) (world c.args.m.now b))) c.first_value.ensures.comes
