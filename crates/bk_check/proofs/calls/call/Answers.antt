use Rattle.bk_check.proofs.Terms.{◌≡◌, ◌+◌, max, ap, ◌∙◌, arith, Value, cells_living, Outcome, called, full, program_in, value_in, world, tag, a_value, resumed, list_value}
use Rattle.bk_check.proofs.Resuming.{meets_in, pushed_return}
use Rattle.bk_check.proofs.Entering.{counted}
use Rattle.bk_check.proofs.calls.call.Goals as goal
use Rattle.std.proofs.lemmas.List.Sums.{sum_by_push}
use Rattle.bk_check.specs.Progress.{weight_of, frames_weight}
use Rattle.bk_check.specs.declared.frame.Continuation.TheVariants as f

pub returns-clause-comes : goal.returns-clause-comes
returns-clause-comes c =
    let p = program_in c.args.program.now in
    let f = value_in c.args.callee in
    let vs = list_value c.args.values.items in
    let n : c.in_ok-m.field-0 ≡ c.args.m.now.calls + 1 = grind arith in
    let k : c.max-m.result ≡ max c.args.m.now.most_calls (c.args.m.now.calls + 1) = grind arith in
    let i : c.max-m-2.result ≡ max c.args.m.now.most_cells (cells_living c.args.m.now.store) = grind arith in
    meets_in p c.called.result _ (λ b. world c.called.new.m b) _ _
    (λ b. let w = world c.args.m.now b in
    pushed_return p c.args.m.now.frames.items _ (record { at = c.args.at; callee = c.args.callee; arguments = c.len.result; calls = c.args.m.now.calls }) (called p (full p) c.args.at f vs (record w { calls = c.in_ok-m.field-0; most_calls = c.max-m.result; most_cells = c.max-m-2.result })) c.in_ok-push.ensures.items
    ∙ ap (λ (u : Outcome Value). resumed p c.args.m.now.frames.items (tag a_value u)) (counted p c.args.at f vs w c.in_ok-m.field-0 c.max-m.result c.max-m-2.result n k i)) c.called.ensures.comes

pub returns-clause-falls : goal.returns-clause-falls
returns-clause-falls c = (c.called.ensures.falls.0, λ le. omega (arith, c.called.ensures.falls.1 le, ap frames_weight c.in_ok-push.ensures.items, sum_by_push weight_of c.args.m.now.frames.items (f.Returned (record { at = c.args.at; callee = c.args.callee; arguments = c.len.result; calls = c.args.m.now.calls }))))
