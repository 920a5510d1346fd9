use Rattle.bk_check.proofs.Terms.{◌∷◌, ap, sym, ◌∙◌, Init, expression, starts_in, Outcome, Done, letters_in, env_in, world, tag, done_tag, resumed, starting_then, started_then}
use Rattle.bk_check.proofs.Resuming.{meets}
use Rattle.bk_check.proofs.Lets.{vector_is}
use Rattle.bk_check.proofs.blocks.start_one.Goals as goal

pub returns-in-Value-clause-comes : goal.returns-in-Value-clause-comes
returns-in-Value-clause-comes c = meets c.start_value.result _ (λ b. world c.start_value.new.m b) _ _
    (λ p b. ap (λ (x : Init). resumed p c.args.m.now.frames.items (tag done_tag (starting_then p (starts_in (x ∷ c.args.others.now)) (env_in c.args.here) (letters_in c.args.names.now) c.args.rest.value (world c.args.m.now b)))) (sym c.in-Value.is)) c.start_value.ensures.comes

pub returns-in-Vector-clause-comes : goal.returns-in-Vector-clause-comes
returns-in-Vector-clause-comes c = meets c.vector.result _ (λ b. world c.vector.new.m b) _ _
    (λ p b. ap (λ (u : Outcome Done). resumed p c.args.m.now.frames.items (tag done_tag u)) (vector_is p c.in-Vector.at (expression c.in-Vector.size) (starts_in c.args.others.now) (env_in c.args.here) (λ vs w. started_then p c.args.rest.value (letters_in c.args.names.now) vs w) (world c.args.m.now b))
    ∙ ap (λ (x : Init). resumed p c.args.m.now.frames.items (tag done_tag (starting_then p (starts_in (x ∷ c.args.others.now)) (env_in c.args.here) (letters_in c.args.names.now) c.args.rest.value (world c.args.m.now b)))) (sym c.in-Vector.is)) c.vector.ensures.comes
