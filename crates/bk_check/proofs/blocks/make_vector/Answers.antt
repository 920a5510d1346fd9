use Rattle.bk_check.proofs.Terms.{◌≡◌, max, ◌∷◌, ap, arith, cells_living, expression, starts_in, acts_at, address, made, Outcome, Done, gives, with, starts, vec_cells, full, letters_in, env_in, world, tag, done_tag, resumed, started_then}
use Rattle.bk_check.proofs.Vectors.{meets_there, vector_made}
use Rattle.bk_check.proofs.blocks.make_vector.Goals as goal

pub returns-clause-comes : goal.returns-clause-comes
returns-clause-comes c =
    let mem : c.make_unset.new.self ≡ made (vec_cells c.in-Some.last) c.args.m.now.store = c.in_ok-make_unset-in-Some.ensures.made in
    let cells : c.max-m.result ≡ max c.args.m.now.most_cells (cells_living c.make_unset.new.self) = grind arith in
    meets_there c.named.result c.args.m.now.frames.items (λ b. record (world c.args.m.now b) { memory = c.make_unset.new.self; most_cells = c.max-m.result })
    (λ p w. with (with (starts (full p) (starts_in c.args.others.now) (env_in c.args.here) w) (λ vs w. gives (address c.made-object.result 0 ∷ vs) w)) (λ vs w. started_then p c.args.rest.value (letters_in c.args.names.now) vs w))
    _
    (λ p b. ap (λ (u : Outcome Done). resumed p c.args.m.now.frames.items (tag done_tag u))
    (vector_made p (acts_at (expression c.args.size.now)) c.args.last c.in-Some.last c.made-object.result c.max-m.result c.make_unset.new.self (starts_in c.args.others.now) (env_in c.args.here) (letters_in c.args.names.now) c.args.rest.value (world c.args.m.now b) c.in-Some.is c.made-object.ensures mem cells))
    c.named.ensures.comes
