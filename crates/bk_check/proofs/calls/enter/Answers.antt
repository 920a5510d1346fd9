use Rattle.bk_check.proofs.Terms.{◌≡◌, List, map, ap, ◌∙◌, Value, made, Outcome, remembering, Environment, formal_cells, bind_formals, run_body, Worth, Cell, cell_in, full, env_in, procedure_in, world, tag, a_value, resumed, list_value}
use Rattle.bk_meaning.specs.Values as v
use Rattle.bk_check.proofs.Resuming.{meets_each, pushed_closing_value}
use Rattle.bk_check.proofs.Entering.{entered}
use Rattle.bk_check.proofs.calls.enter.Goals as goal
use Rattle.std.proofs.Common.{arith}
use Rattle.std.proofs.lemmas.List.Sums.{sum_by_push}
use Rattle.bk_check.specs.Progress.{weight_of, frames_weight}
use Rattle.bk_check.specs.declared.frame.Continuation.TheVariants as f

pub returns-clause-comes : goal.returns-clause-comes
returns-clause-comes c =
    let q = procedure_in c.args.procedure.now in
    let vs = list_value c.args.values.items in
    let env : env_in c.in_ok-env.env ≡ bind_formals c.made-object.result 0 q.formals q.env = c.in_ok-env.ensures ∙ ap (λ (x : Environment). bind_formals c.made-object.result 0 q.formals x) c.in_ok-again.ensures in
    let mem : c.make.new.self ≡ made (formal_cells q.formals vs) c.args.m.now.store = c.in_ok-make.ensures.made ∙ ap (λ (xs : List Cell). made (map cell_in xs) c.args.m.now.store) c.deref-2.ensures.value ∙ ap (λ (xs : List v.Cell). made xs c.args.m.now.store) (c.in_ok-cells.ensures ∙ ap (λ (ys : List Worth). formal_cells q.formals (list_value ys)) c.deref.ensures.value) in
    meets_each c.body.result _ (λ b. world c.body.new.m b) _ _
    (λ p b l. pushed_closing_value p c.args.m.now.frames.items _ c.made-object.result (run_body (full p) q.body (env_in c.in_ok-env.env) (remembering c.make.new.self (world c.args.m.now b))) c.in_ok-push.ensures.items
    ∙ ap (λ (u : Outcome Value). resumed p c.args.m.now.frames.items (tag a_value u)) (entered p l q vs (world c.args.m.now b) c.made-object.result (env_in c.in_ok-env.env) c.make.new.self c.made-object.ensures env mem)) c.body.ensures.comes

pub returns-clause-falls : goal.returns-clause-falls
returns-clause-falls c = (c.body.ensures.falls.0, λ le. omega (arith, c.body.ensures.falls.1 le, ap frames_weight c.in_ok-push.ensures.items, sum_by_push weight_of c.args.m.now.frames.items (f.Closing c.made-object.result)))
