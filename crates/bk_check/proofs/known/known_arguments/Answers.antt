use Rattle.std.specs.Prelude.{◌≤◌}
use Rattle.bk_check.proofs.Terms.{◌≡◌, ℕ, ◌∷◌, length, refl, ap, sym, ◌∙◌, arith, rules, List, expression, expressions_in, World, env_in, list_value, applied_after}
use Rattle.bk_tree.specs.declared.tree.Expr.{Expr}
use Rattle.bk_check.proofs.AtOnce.{argument_known, still_world}
use Rattle.bk_check.proofs.known.known_arguments.Goals as goal

pub known-init : goal.known-init
known-init c = ((λ p at callee env w memory turns. still_world w c.args.turns (λ w. applied_after p at (list_value c.args.before.items) (expressions_in c.args.items.now) (env_in c.args.here.now) callee env w) turns), (omega arith), (omega arith))

pub known-preserved : goal.known-preserved
known-preserved c =
    let items : c.known.items.now ≡ c.in-Some.first.now ∷ c.in-Some.rest.now = search rules in
    let fewer : length c.in-Some.rest.now ≤ length c.known.items.now = grind arith in (
      (λ p at callee env w memory turns.
          argument_known p at c.known.before.items c.push.new.self.items c.in-Some-known.k.0 (expression c.in-Some.first.now) (expressions_in c.in-Some.rest.now) (env_in c.args.here.now) callee env (record w { turns = c.known.turns }) c.in-Some-known.k.1
          (c.in-Some-known.ensures.value p (env_in c.args.here.now) (record w { turns = c.known.turns }) refl memory refl) c.in-Some-known.ensures.lasting c.in_ok-push-in-Some-known.ensures.items
          ∙ ap (λ (es : List Expr). applied_after p at (list_value c.known.before.items) (expressions_in es) (env_in c.args.here.now) callee env (record w { turns = c.known.turns })) (sym items)
          ∙ c.known.invariant.0 p at callee env w memory turns),
      omega (arith, c.known.invariant.1, c.in-Some-known.ensures.fewer),
      omega (arith, c.known.invariant.2, fewer),
    )
