use Rattle.bk_check.proofs.Terms.{ap, ◌∙◌, command_in, Outcome, Done, in_order, alone, full, mode_in, env_in, world, tag, done_tag, resumed, OnDone as d}
use Rattle.bk_check.proofs.Resuming.{meets, pushed_done}
use Rattle.bk_check.proofs.Scoped.{scope_is}
use Rattle.bk_check.proofs.machine.Evaluator.alone.Goals as goal
use Rattle.std.proofs.Common.{arith}
use Rattle.std.proofs.lemmas.List.Sums.{sum_by_push}
use Rattle.bk_check.specs.Progress.{weight_of, frames_weight}
use Rattle.bk_check.specs.declared.frame.Continuation.TheVariants as f

pub returns-clause-comes : goal.returns-clause-comes
returns-clause-comes c =
    let cs = alone (command_in c.args.command.now) in
    meets c.from_place.result _ (λ b. world c.from_place.new.m b) _ _
    (λ p b. pushed_done p c.args.self.now.frames.items c.push.new.self.items (d.Alone c.args.command c.in_ok-again.field-0) (in_order (full p) cs (mode_in c.args.mode) (env_in c.in_ok-inside.inside) (world c.args.self.now b)) c.in_ok-push.ensures.items
    ∙ ap (λ (u : Outcome Done). resumed p c.args.self.now.frames.items (tag done_tag u)) (scope_is p cs (mode_in c.args.mode) (env_in c.args.env) (env_in c.in_ok-again.field-0) (env_in c.in_ok-inside.inside) (world c.args.self.now b) c.in_ok-again.ensures c.in_ok-inside.ensures)) c.from_place.ensures.comes

pub returns-clause-falls : goal.returns-clause-falls
returns-clause-falls c = (c.from_place.ensures.falls.0, λ le. omega (arith, c.from_place.ensures.falls.1 le, ap frames_weight c.in_ok-push.ensures.items, sum_by_push weight_of c.args.self.now.frames.items (f.Done (d.Alone c.args.command c.in_ok-again.field-0))))
