use Rattle.std.specs.Prelude.{◌≤◌}
use Rattle.bk_check.proofs.Terms.{◌≡◌, ℕ, ◌∷◌, length, false, ap, sym, ◌∙◌, arith, rules, List, command_in, commands_in, Environment, following, has_place, in_order, seeking, full, env_in, sought_in}
use Rattle.bk_tree.specs.declared.tree.Command.{Command}
use Rattle.bk_check.proofs.AtOnce.{pass_one}
use Rattle.bk_check.proofs.commands.passed.Goals as goal

pub passing-preserved : goal.passing-preserved
passing-preserved c =
    let rest : c.passing.rest.now ≡ c.in-Some.first.now ∷ c.in-Some.others.now = search rules in
    let fewer : length c.in-Some.others.now ≤ length c.passing.rest.now = grind arith in
    let first = command_in c.in-Some.first.now in
    let here = env_in c.passing.here in
    let s = sought_in c.args.sought in
    let out : has_place s here first ≡ false = grind arith in (
      (λ p w. pass_one (full p) s first (commands_in c.in-Some.others.now) here _ w out (c.in_ok-here.ensures ∙ ap (λ (n : ℕ). following n here) c.in_ok-count_command.ensures)
          ∙ ap (λ (cs : List Command). in_order (full p) (commands_in cs) (seeking s) here w) (sym rest)
          ∙ c.passing.invariant.0 p w),
      omega (arith, c.passing.invariant.1, fewer),
    )
