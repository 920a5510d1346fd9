use Rattle.std.proofs.Common.{◌≡◌, ◌++◌, drop}
use Rattle.bk_tree.specs.Tree.{expressions_in, commands_in, declarations_in, definitions_in, starts_in}
use Rattle.bk_source_map.specs.Places.{inner_each, inner_onto, inner_through, inner_declared, inner_defined, inner_started}
use Rattle.bk_source_map.proofs.inner.+inner.Given as goal

abbrev pub invariant-inside_each-loop-expr : goal.invariant-inside_each-loop-expr
invariant-inside_each-loop-expr l = l.out.places.items ++ inner_each l.kind (expressions_in (drop l.expr-index l.exprs)) ≡ l.fn.out.places.items ++ inner_each l.kind (expressions_in l.exprs)

abbrev pub invariant-inside_onto-loop-expr : goal.invariant-inside_onto-loop-expr
invariant-inside_onto-loop-expr l = l.out.places.items ++ inner_onto l.kind (expressions_in (drop l.expr-index l.exprs)) ≡ l.fn.out.places.items ++ inner_onto l.kind (expressions_in l.exprs)

abbrev pub invariant-inside_each_act-loop-command : goal.invariant-inside_each_act-loop-command
invariant-inside_each_act-loop-command l = l.out.places.items ++ inner_through l.kind (commands_in (drop l.command-index l.commands)) ≡ l.fn.out.places.items ++ inner_through l.kind (commands_in l.commands)

abbrev pub invariant-inside_decls-loop-decl : goal.invariant-inside_decls-loop-decl
invariant-inside_decls-loop-decl l = l.out.places.items ++ inner_declared l.kind (declarations_in (drop l.decl-index l.decls)) ≡ l.fn.out.places.items ++ inner_declared l.kind (declarations_in l.decls)

abbrev pub invariant-inside_defs-loop-def : goal.invariant-inside_defs-loop-def
invariant-inside_defs-loop-def l = l.out.places.items ++ inner_defined l.kind (definitions_in (drop l.def-index l.defs)) ≡ l.fn.out.places.items ++ inner_defined l.kind (definitions_in l.defs)

abbrev pub invariant-inside_starts-loop-start : goal.invariant-inside_starts-loop-start
invariant-inside_starts-loop-start l = l.out.places.items ++ inner_started l.kind (starts_in (drop l.start-index l.starts)) ≡ l.fn.out.places.items ++ inner_started l.kind (starts_in l.starts)
