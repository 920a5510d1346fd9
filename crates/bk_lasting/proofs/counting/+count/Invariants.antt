use Rattle.bk_lasting.proofs.Terms.{◌≡◌, ◌+◌, drop, expressions_in, commands_in, declarations_in, definitions_in, starts_in, objects_of_each, objects_of_commands, objects_of_declarations, objects_of_definitions, objects_of_starts}
use Rattle.bk_lasting.proofs.counting.+count.Given as goal

abbrev pub invariant-count_each-loop-expr : goal.invariant-count_each-loop-expr
invariant-count_each-loop-expr l = l.total + objects_of_each (expressions_in (drop l.expr-index l.exprs)) ≡ objects_of_each (expressions_in l.exprs)

abbrev pub invariant-count_commands-loop-command : goal.invariant-count_commands-loop-command
invariant-count_commands-loop-command l = l.total + objects_of_commands (commands_in (drop l.command-index l.commands)) ≡ objects_of_commands (commands_in l.commands)

abbrev pub invariant-count_decls-loop-decl : goal.invariant-count_decls-loop-decl
invariant-count_decls-loop-decl l = l.total + objects_of_declarations (declarations_in (drop l.decl-index l.decls)) ≡ objects_of_declarations (declarations_in l.decls)

abbrev pub invariant-count_defs-loop-def : goal.invariant-count_defs-loop-def
invariant-count_defs-loop-def l = l.total + objects_of_definitions (definitions_in (drop l.def-index l.defs)) ≡ objects_of_definitions (definitions_in l.defs)

abbrev pub invariant-count_starts-loop-start : goal.invariant-count_starts-loop-start
invariant-count_starts-loop-start l = l.total + objects_of_starts (starts_in (drop l.start-index l.starts)) ≡ objects_of_starts (starts_in l.starts)
