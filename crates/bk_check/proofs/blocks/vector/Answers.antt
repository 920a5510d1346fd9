use Rattle.bk_check.proofs.Terms.{◌≡◌, ◌-◌, ◌<◌, Option, ℕ, ap, ◌∙◌, arith, expression, starts_in, Outcome, Done, acts_at, constant_in, letters_in, env_in, world, tag, done_tag, resumed, vector_then, turn_left, turn_none}
use Rattle.bk_check.proofs.Resuming.{meets}
use Rattle.bk_check.proofs.blocks.vector.Goals as goal

pub returns-clause-comes : goal.returns-clause-comes
returns-clause-comes c =
    let lt : 0 < c.args.m.now.turns = grind arith in
    meets c.make_vector.result _ (λ b. world c.make_vector.new.m b) _ _
    (λ p b. ap (λ (u : Outcome Done). resumed p c.args.m.now.frames.items (tag done_tag u))
    (ap (λ (x : Option ℕ). vector_then p (acts_at (expression c.args.size.now)) x (starts_in c.args.others.now) (env_in c.args.here) (letters_in c.args.names.now) c.args.rest.value (record (world c.args.m.now b) { turns = c.args.m.now.turns - 1 })) c.constant-last.ensures
    ∙ turn_left _ (world c.args.m.now b) (vector_then p (acts_at (expression c.args.size.now)) (constant_in (env_in c.args.here) (expression c.args.size.now)) (starts_in c.args.others.now) (env_in c.args.here) (letters_in c.args.names.now) c.args.rest.value) lt)) c.make_vector.ensures.comes

pub returns-then-m-eq0-clause-comes : goal.returns-then-m-eq0-clause-comes
returns-then-m-eq0-clause-comes c =
    let none : c.args.m.now.turns ≡ 0 = grind arith in
    λ p b. ap (λ (u : Outcome Done). resumed p c.args.m.now.frames.items (tag done_tag u)) (turn_none (world c.args.m.now b) (vector_then p (acts_at (expression c.args.size.now)) (constant_in (env_in c.args.here) (expression c.args.size.now)) (starts_in c.args.others.now) (env_in c.args.here) (letters_in c.args.names.now) c.args.rest.value) none)
