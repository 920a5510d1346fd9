use Rattle.std.proofs.Common.{◌≡◌, take}
use Rattle.bk_tree.specs.Tree.{expressions_in, commands_in, declarations_in, items_in, definitions_in, starts_in}
use Rattle.bk_tree.proofs.copying.+copy.Given as goal

abbrev pub invariant-copy_list-loop-expr : goal.invariant-copy_list-loop-expr
invariant-copy_list-loop-expr l = expressions_in l.copies.items ≡ expressions_in (take l.expr-index l.exprs)

abbrev pub invariant-copy_commands-loop-command : goal.invariant-copy_commands-loop-command
invariant-copy_commands-loop-command l = commands_in l.copies.items ≡ commands_in (take l.command-index l.commands)

abbrev pub invariant-copy_declarations-loop-decl : goal.invariant-copy_declarations-loop-decl
invariant-copy_declarations-loop-decl l = declarations_in l.copies.items ≡ declarations_in (take l.decl-index l.decls)

abbrev pub invariant-copy_items-loop-item : goal.invariant-copy_items-loop-item
invariant-copy_items-loop-item l = items_in l.copies.items ≡ items_in (take l.item-index l.items)

abbrev pub invariant-copy_definitions-loop-def : goal.invariant-copy_definitions-loop-def
invariant-copy_definitions-loop-def l = definitions_in l.copies.items ≡ definitions_in (take l.def-index l.defs)

abbrev pub invariant-copy_inits-loop-init : goal.invariant-copy_inits-loop-init
invariant-copy_inits-loop-init l = starts_in l.copies.items ≡ starts_in (take l.init-index l.inits)
