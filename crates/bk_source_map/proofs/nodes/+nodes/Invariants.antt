use Rattle.std.proofs.Common.{◌≡◌, ◌++◌, drop}
use Rattle.bk_tree.specs.Tree.{expressions_in, commands_in, declarations_in, definitions_in, starts_in}
use Rattle.bk_source_map.specs.Places.{each_places, values_places, stores_places, by_turns, through_places, declared_places, defined_places, started_places}
use Rattle.bk_source_map.proofs.nodes.+nodes.Given as goal

abbrev pub invariant-each_value-loop-expr : goal.invariant-each_value-loop-expr
invariant-each_value-loop-expr l = l.out.places.items ++ each_places (expressions_in (drop l.expr-index l.exprs)) ≡ l.fn.out.places.items ++ each_places (expressions_in l.exprs)

abbrev pub invariant-act-loop-i : goal.invariant-act-loop-i
invariant-act-loop-i l =
    l.out.places.items ++ by_turns (values_places (expressions_in (drop l.i l.from))) (stores_places (expressions_in (drop l.i l.to)))
    ≡ l.fn.out.places.items ++ by_turns (values_places (expressions_in l.from)) (stores_places (expressions_in l.to))

abbrev pub invariant-each_act-loop-command : goal.invariant-each_act-loop-command
invariant-each_act-loop-command l = l.out.places.items ++ through_places (commands_in (drop l.command-index l.commands)) ≡ l.fn.out.places.items ++ through_places (commands_in l.commands)

abbrev pub invariant-declare_each-loop-decl : goal.invariant-declare_each-loop-decl
invariant-declare_each-loop-decl l = l.out.places.items ++ declared_places (declarations_in (drop l.decl-index l.decls)) ≡ l.fn.out.places.items ++ declared_places (declarations_in l.decls)

abbrev pub invariant-define_each-loop-def : goal.invariant-define_each-loop-def
invariant-define_each-loop-def l = l.out.places.items ++ defined_places (definitions_in (drop l.def-index l.defs)) ≡ l.fn.out.places.items ++ defined_places (definitions_in l.defs)

abbrev pub invariant-start_each-loop-start : goal.invariant-start_each-loop-start
invariant-start_each-loop-start l = l.out.places.items ++ started_places (starts_in (drop l.start-index l.starts)) ≡ l.fn.out.places.items ++ started_places (starts_in l.starts)
