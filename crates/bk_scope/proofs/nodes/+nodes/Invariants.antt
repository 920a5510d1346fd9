use Rattle.bk_scope.proofs.Terms.{◌≡◌, ◌++◌, map, drop, expressions_in, commands_in, declarations_in, definitions_in, starts_in, mention, each_evaluated, destinations, each_done, declared, defined, started, place_after, variables_of}
use Rattle.bk_scope.proofs.nodes.+nodes.Given as goal

abbrev pub invariant-act_each-loop-command : goal.invariant-act_each-loop-command
invariant-act_each-loop-command l = record {
  scope : l.walk.scope ≡ l.fn.walk.scope;
  found : each_done l.fn.walk.scope l.place (commands_in (drop l.command-index l.commands)) l.walk.found ≡ each_done l.fn.walk.scope l.place (commands_in l.commands) l.fn.walk.found;
}

abbrev pub invariant-declare_each-loop-decl : goal.invariant-declare_each-loop-decl
invariant-declare_each-loop-decl l = declared l.walk.scope l.following (declarations_in (drop l.decl-index l.decls)) l.walk.found ≡ declared l.fn.walk.scope l.fn.place (declarations_in l.decls) l.fn.walk.found

abbrev pub invariant-define_each-loop-def : goal.invariant-define_each-loop-def
invariant-define_each-loop-def l = record {
  scope : l.walk.scope ≡ l.fn.walk.scope;
  found : defined l.list l.fn.walk.scope (definitions_in (drop l.def-index l.defs)) (record { fresh = l.fresh; place = l.following; found = l.walk.found }) ≡ defined l.list l.fn.walk.scope (definitions_in l.defs) (record { fresh = l.fn.fresh; place = l.fn.place; found = l.fn.walk.found });
}

abbrev pub invariant-evaluate_each-loop-expr : goal.invariant-evaluate_each-loop-expr
invariant-evaluate_each-loop-expr l = record {
  scope : l.walk.scope ≡ l.fn.walk.scope;
  found : each_evaluated l.words l.fn.walk.scope l.next (expressions_in (drop l.expr-index l.exprs)) l.walk.found ≡ each_evaluated l.words l.fn.walk.scope l.fn.place (expressions_in l.exprs) l.fn.walk.found;
}

abbrev pub invariant-set_each-loop-expr : goal.invariant-set_each-loop-expr
invariant-set_each-loop-expr l = record {
  scope : l.walk.scope ≡ l.fn.walk.scope;
  found : destinations l.fn.walk.scope l.place (expressions_in (drop l.expr-index l.exprs)) l.walk.found ≡ destinations l.fn.walk.scope l.place (expressions_in l.exprs) l.fn.walk.found;
}

abbrev pub invariant-start_each-loop-index : goal.invariant-start_each-loop-index
invariant-start_each-loop-index l = record {
  scope : l.walk.scope ≡ l.fn.walk.scope;
  found : started l.fn.walk.scope l.next (starts_in (drop l.index l.starts)) l.walk.found ≡ started l.fn.walk.scope l.fn.place (starts_in l.starts) l.fn.walk.found;
  place : place_after l.fn.walk.scope l.next (starts_in (drop l.index l.starts)) ≡ place_after l.fn.walk.scope l.fn.place (starts_in l.starts);
  fresh : l.fresh ++ variables_of l.fn.walk.scope l.next (map mention (drop l.index l.names)) (starts_in (drop l.index l.starts)) ≡ l.fn.fresh ++ variables_of l.fn.walk.scope l.fn.place (map mention l.names) (starts_in l.starts);
}
