use Rattle.bk_check.proofs.Terms.{◌≡◌, List, length, ap, sym, ◌∙◌, arith, Command, command_in, commands_in, block, Block_is, goto, alone, env_in, world, tag, done_tag, resumed, lands}
use Rattle.bk_tree.specs.Tree.{no_declarations}
use Rattle.bk_tree.specs.declared.tree.Command.{Command as Act}
use Rattle.bk_check.specs.Scoped.{Scoped}
use Rattle.bk_check.proofs.Resuming.{meets}
use Rattle.bk_check.proofs.Seeks.{plain}
use Rattle.bk_check.proofs.landings.lands_alone.Goals as goal

pub returns-clause-comes : goal.returns-clause-comes
returns-clause-comes c =
    let none : length c.in-Block.decls.items ≡ 0 = grind arith in
    let same : block c.in-Block.at no_declarations (commands_in c.deref.result.now) ≡ command_in c.args.command.now =
    ap (λ (cs : List Act). block c.in-Block.at no_declarations (commands_in cs)) c.deref.ensures.value
    ∙ plain c.in-Block.at c.in-Block.decls.items (commands_in c.in-Block.commands.items) none
    ∙ sym (ap command_in c.in-Block.is ∙ Block_is c.in-Block.at c.in-Block.decls c.in-Block.commands) in
    meets c.lands_in_block.result _ (λ b. world c.lands_in_block.new.m b) _ _
    (λ p b. ap (λ (s : Scoped). resumed p c.args.m.now.frames.items (tag done_tag (lands p (alone (block c.in-Block.at no_declarations (commands_in s.commands))) s.env (goto c.args.label.now) (world c.args.m.now b)))) c.new.ensures
    ∙ ap (λ (k : Command). resumed p c.args.m.now.frames.items (tag done_tag (lands p (alone k) (env_in c.args.env) (goto c.args.label.now) (world c.args.m.now b)))) same) c.lands_in_block.ensures.comes
