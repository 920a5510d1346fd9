use Rattle.bk_trans.proofs.Terms.{◌≡◌, drop, expressions_in, commands_in, declarations_in, definitions_in, starts_in, reached, each_written, stores_written, values_written, each_act_written, declared, defined, started}
use Rattle.bk_trans.proofs.nodes.+nodes.Given as goal

abbrev pub invariant-each_value-loop-expr : goal.invariant-each_value-loop-expr
invariant-each_value-loop-expr l = each_written l.next (expressions_in (drop l.expr-index l.exprs)) l.out ≡ each_written l.fn.depth (expressions_in l.exprs) l.fn.out

abbrev pub invariant-each_store-loop-expr : goal.invariant-each_store-loop-expr
invariant-each_store-loop-expr l = stores_written l.depth (expressions_in (drop l.expr-index l.exprs)) (record { codes = l.codes; writing = l.out }) ≡ stores_written l.depth (expressions_in l.exprs) (record { codes = l.fn.codes; writing = l.fn.out })

abbrev pub invariant-each_stored-loop-expr : goal.invariant-each_stored-loop-expr
invariant-each_stored-loop-expr l = values_written l.depth (expressions_in (drop l.expr-index l.exprs)) l.codes l.out ≡ values_written l.depth (expressions_in l.exprs) l.fn.codes l.fn.out

abbrev pub invariant-each_act-loop-command : goal.invariant-each_act-loop-command
invariant-each_act-loop-command l = each_act_written l.around l.depth (commands_in (drop l.command-index l.commands)) l.out ≡ each_act_written l.around l.depth (commands_in l.commands) l.fn.out

abbrev pub invariant-declare_each-loop-decl : goal.invariant-declare_each-loop-decl
invariant-declare_each-loop-decl l = declared (declarations_in (drop l.decl-index l.decls)) (reached l.following l.out) ≡ declared (declarations_in l.decls) (reached l.fn.depth l.fn.out)

abbrev pub invariant-define_each-loop-def : goal.invariant-define_each-loop-def
invariant-define_each-loop-def l = defined (definitions_in (drop l.def-index l.defs)) (reached l.following l.out) ≡ defined (definitions_in l.defs) (reached l.fn.depth l.fn.out)

abbrev pub invariant-start_each-loop-start : goal.invariant-start_each-loop-start
invariant-start_each-loop-start l = started (starts_in (drop l.start-index l.starts)) (reached l.following l.out) ≡ started (starts_in l.starts) (reached l.fn.depth l.fn.out)
