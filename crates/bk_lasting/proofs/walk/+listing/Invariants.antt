use Rattle.bk_lasting.proofs.Terms.{◌≡◌, ◌++◌, drop, expressions_in, commands_in, declarations_in, definitions_in, starts_in, of_each, of_commands, of_declarations, of_definitions, of_starts, env_in, listed}
use Rattle.bk_lasting.proofs.walk.+listing.Given as goal

abbrev pub invariant-list_each-loop-expr : goal.invariant-list_each-loop-expr
invariant-list_each-loop-expr l = listed l.list ++ of_each (env_in l.here) (expressions_in (drop l.expr-index l.exprs)) ≡ listed l.fn.list ++ of_each (env_in l.env) (expressions_in l.exprs)

abbrev pub invariant-list_commands-loop-command : goal.invariant-list_commands-loop-command
invariant-list_commands-loop-command l = listed l.list ++ of_commands (env_in l.here) (commands_in (drop l.command-index l.commands)) ≡ listed l.fn.list ++ of_commands (env_in l.env) (commands_in l.commands)

abbrev pub invariant-list_decls-loop-decl : goal.invariant-list_decls-loop-decl
invariant-list_decls-loop-decl l = listed l.list ++ of_declarations (env_in l.here) (declarations_in (drop l.decl-index l.decls)) ≡ listed l.fn.list ++ of_declarations (env_in l.env) (declarations_in l.decls)

abbrev pub invariant-list_defs-loop-def : goal.invariant-list_defs-loop-def
invariant-list_defs-loop-def l = listed l.list ++ of_definitions (env_in l.here) (definitions_in (drop l.def-index l.defs)) ≡ listed l.fn.list ++ of_definitions (env_in l.env) (definitions_in l.defs)

abbrev pub invariant-list_starts-loop-start : goal.invariant-list_starts-loop-start
invariant-list_starts-loop-start l = listed l.list ++ of_starts (env_in l.here) (starts_in (drop l.start-index l.starts)) ≡ listed l.fn.list ++ of_starts (env_in l.env) (starts_in l.starts)
