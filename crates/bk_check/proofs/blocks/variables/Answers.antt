use Rattle.bk_check.proofs.Terms.{◌≡◌, ◌<◌, ap, arith, starts_in, Outcome, Done, letters_in, env_in, world, tag, done_tag, resumed, variables_then, turn_left, turn_none}
use Rattle.bk_check.proofs.blocks.variables.Goals as goal

pub returns-clause-comes : goal.returns-clause-comes
returns-clause-comes c =
    let lt : 0 < c.args.m.now.turns = grind arith in
    rw (c.replace-here.ensures.value, c.replace-here.ensures.after, c.deref_mut.ensures.value) (λ p b. ap (λ (u : Outcome Done). resumed p c.args.m.now.frames.items (tag done_tag u)) (turn_left _ (world c.args.m.now b) (variables_then p (starts_in c.args.inits.now) (letters_in c.args.names.now) (env_in c.args.there) c.args.rest.value) lt))

pub returns-then-m-eq0-clause-comes : goal.returns-then-m-eq0-clause-comes
returns-then-m-eq0-clause-comes c =
    let none : c.args.m.now.turns ≡ 0 = grind arith in
    λ p b. ap (λ (u : Outcome Done). resumed p c.args.m.now.frames.items (tag done_tag u)) (turn_none (world c.args.m.now b) (variables_then p (starts_in c.args.inits.now) (letters_in c.args.names.now) (env_in c.args.there) c.args.rest.value) none)
