use Rattle.bk_check.proofs.Terms.{◌≡◌, ◌+◌, List, arith, ap, sym, ◌∙◌, Declaration, declaration, declarations_in, commands_in, items_in, definitions_in, Constants_is, Let_is, env_in, world, tag, done_tag, resumed, declared_then}
use Rattle.bk_tree.specs.declared.tree.ConstItem.{ConstItem}
use Rattle.bk_tree.specs.declared.tree.Decl.{Decl}
use Rattle.bk_tree.specs.declared.tree.Def.{Def}
use Rattle.bk_tree.specs.Tree as t
use Rattle.bk_check.specs.Progress.{definitions_cost, declaration_cost}
use Rattle.bk_check.proofs.Resuming.{meets_at}
use Rattle.bk_check.proofs.blocks.declare_one.Goals as goal

pub returns-in-Constants-clause-comes : goal.returns-in-Constants-clause-comes
returns-in-Constants-clause-comes c =
    let e : declaration c.args.first.now ≡ t.constants c.in-Constants.at c.in-Constants.sort (items_in c.in-Constants.items.items) = ap declaration c.in-Constants.is ∙ Constants_is c.in-Constants.at c.in-Constants.sort c.in-Constants.items in
    meets_at c.declare_constants.result _ (λ b. world c.declare_constants.new.m b) _ _ c.in-Constants.at
    (λ p b. ap (λ (d : Declaration). resumed p c.args.m.now.frames.items (tag done_tag (declared_then p (t.declare d (declarations_in c.args.rest.now)) (commands_in c.args.commands.now) (env_in c.args.env) (world c.args.m.now b))))
    (ap (λ (xs : List ConstItem). t.constants c.in-Constants.at c.in-Constants.sort (items_in xs)) c.deref.ensures.value ∙ sym e)) c.declare_constants.ensures.comes

pub returns-in-Let-clause-comes : goal.returns-in-Let-clause-comes
returns-in-Let-clause-comes c =
    let e : declaration c.args.first.now ≡ t.definitions c.in-Let.at (definitions_in c.in-Let.defs.items) = ap declaration c.in-Let.is ∙ Let_is c.in-Let.at c.in-Let.defs in
    meets_at c.declare_let.result _ (λ b. world c.declare_let.new.m b) _ _ c.in-Let.at
    (λ p b. ap (λ (d : Declaration). resumed p c.args.m.now.frames.items (tag done_tag (declared_then p (t.declare d (declarations_in c.args.rest.now)) (commands_in c.args.commands.now) (env_in c.args.env) (world c.args.m.now b))))
    (ap (λ (xs : List Def). t.definitions c.in-Let.at (definitions_in xs)) c.deref-in-Let.ensures.value ∙ sym e)) c.declare_let.ensures.comes

pub returns-in-Let-clause-falls : goal.returns-in-Let-clause-falls
returns-in-Let-clause-falls c =
    let e : declaration_cost (declaration c.args.first.now) ≡ definitions_cost (definitions_in c.deref-in-Let.result.now) + 2 =
    ap (λ (d : Decl). declaration_cost (declaration d)) c.in-Let.is ∙ ap declaration_cost (Let_is c.in-Let.at c.in-Let.defs)
    ∙ sym (ap (λ (ds : List Def). definitions_cost (definitions_in ds) + 2) c.deref-in-Let.ensures.value) in
    grind arith
