use Rattle.bk_scope.proofs.Terms.{rules, arith, ◌≡◌, ◌-◌, ◌++◌, [], map, drop, get_or, length, refl, ap, sym, ◌∙◌, ◌+◌, ◌<◌, ◌≤◌, append-nil, common_steps, Sort as s, expression, expressions_in, command_in, commands_in, declaration, declarations_in, items_in, definition, definitions_in, starts_in, mention, constants, definitions, variables, apply, table, assign, Constants_is, Let_is, Variables_is, Apply_is, Table_is, Assign_is, Call_is, Block_is, is_zero, is_more, bind_all, takes, labels_of, with_labels, with_formals, with_procedures, Stage, labels_of_each, AfterDeclarations, Defined, evaluated, each_evaluated, done, each_done, declared, defined, variables_of, all_listed, listed, manifests, statics, globals, without_word, vec_len, size, Value, deeper}
use Rattle.bk_scope.proofs.Leaving.{Above, back, longer, formals_above, same, declared_above}
use Rattle.bk_scope.proofs.Definitions.{at, no_variables, no_items_behind, no_definitions_behind, manifests_behind, statics_behind, globals_behind, let_behind, variables_behind}
use Rattle.bk_scope.proofs.nodes.+nodes.Goals as goal
use Rattle.bk_scope.proofs.Calls.{size_is_length, block_without_declarations, block_with_declarations, stage_in, block_behind, stage_by_parts}
use Rattle.bk_scope.proofs.Inside.{longer_inside, back_outside}
use Rattle.bk_scope.proofs.Starts.{found_after, place_then, fresh_after, fresh_without}
use Rattle.bk_scope.proofs.nodes.+nodes.Goals.{start_each-in-Some+in_ok-add, start_each-in_default}

pub act_inside-leave-requires : goal.act_inside-leave-requires
act_inside-leave-requires t c =
    let a = command_in c.args.command.now in
    let around = c.walk.inside.table in
    let at : Stage = record { scope = around; found = c.takes-labels.new.self } in
    let entered : c.enter_labels.new.walk ≡ with_labels c.args.place.procedure (labels_of a) at = first_of (search rules, grind (arith, common_steps)) in
    let through : c.act.new.walk ≡ record { scope = c.enter_labels.new.walk.scope; found = done c.enter_labels.new.walk.scope c.labelled.result a c.enter_labels.new.walk.found } = first_of (search rules, grind (arith, common_steps)) in
    let kept : c.walk-2.inside.table ≡ c.enter_labels.new.walk.scope = ap (λ s. s.scope) c.walk-2.view_is ∙ ap (λ s. s.scope) through in
    longer_inside c.args.place.procedure (labels_of a) at _ _ _ _ (same around) entered kept c.mark-mark.ensures

pub act_inside-returns : goal.act_inside-returns
act_inside-returns t c =
    let a = command_in c.args.command.now in
    let around = c.walk.inside.table in
    let at : Stage = record { scope = around; found = c.takes-labels.new.self } in
    let entered : c.enter_labels.new.walk ≡ with_labels c.args.place.procedure (labels_of a) at = first_of (search rules, grind (arith, common_steps)) in
    let through : c.act.new.walk ≡ record { scope = c.enter_labels.new.walk.scope; found = done c.enter_labels.new.walk.scope c.labelled.result a c.enter_labels.new.walk.found } = first_of (search rules, grind (arith, common_steps)) in
    let kept : c.walk-2.inside.table ≡ c.enter_labels.new.walk.scope = ap (λ s. s.scope) c.walk-2.view_is ∙ ap (λ s. s.scope) through in
    let left : c.leave.new.self ≡ around = back_outside c.args.place.procedure (labels_of a) at _ _ _ _ _ (same around) entered kept c.mark-mark.ensures c.leave.ensures in
    first_of (search rules, grind (arith, common_steps))

pub act-leave-requires : goal.act-leave-requires
act-leave-requires t c =
    let b = c.in-Block in
    let p = c.args.place in
    let was = c.args.walk.now in
    let cs = commands_in b.commands.items in
    let labels = labels_of_each cs in
    let following : AfterDeclarations = declared was.scope p (declarations_in b.decls.items) was.found in
    let made : AfterDeclarations = record { scope = c.declare_each.new.walk.scope; place = c.in_ok-inner-in-Block.inner; found = c.declare_each.new.walk.found } in
    let reported : made ≡ following = first_of (search rules, grind (arith, common_steps)) in
    let raw : c.act_each_labelled.new.walk ≡ block_behind p cs made = first_of (search rules, grind (arith, common_steps)) in
    let through : c.act_each_labelled.new.walk ≡ block_behind p cs following = raw ∙ ap (block_behind p cs) reported in
    let at : Stage = record { scope = following.scope; found = takes following.found } in
    let inner : Stage = stage_in p cs following in
    let kept : c.walk-else-is_empty-2.inside.table ≡ inner.scope = ap (λ s. s.scope) c.walk-else-is_empty-2.view_is ∙ ap (λ s. s.scope) through in
    let marked : c.mark-mark.result ≡ length was.scope = c.mark-mark.ensures ∙ ap (λ s. length s.scope) c.walk-else-is_empty.view_is in
    let above = declared_above (declarations_in b.decls.items) was.scope p was.found in
    longer_inside p.procedure labels at inner was.scope _ _ above refl kept marked

pub act-returns-in_ok-act_each_labelled-in-Block : goal.act-returns-in_ok-act_each_labelled-in-Block
act-returns-in_ok-act_each_labelled-in-Block t c =
    let b = c.in-Block in
    let p = c.args.place in
    let was = c.args.walk.now in
    let cs = commands_in b.commands.items in
    let labels = labels_of_each cs in
    let following : AfterDeclarations = declared was.scope p (declarations_in b.decls.items) was.found in
    let made : AfterDeclarations = record { scope = c.declare_each.new.walk.scope; place = c.in_ok-inner-in-Block.inner; found = c.declare_each.new.walk.found } in
    let reported : made ≡ following = first_of (search rules, grind (arith, common_steps)) in
    let raw : c.act_each_labelled.new.walk ≡ block_behind p cs made = first_of (search rules, grind (arith, common_steps)) in
    let through : c.act_each_labelled.new.walk ≡ block_behind p cs following = raw ∙ ap (block_behind p cs) reported in
    let at : Stage = record { scope = following.scope; found = takes following.found } in
    let inner : Stage = stage_in p cs following in
    let kept : c.walk-else-is_empty-2.inside.table ≡ inner.scope = ap (λ s. s.scope) c.walk-else-is_empty-2.view_is ∙ ap (λ s. s.scope) through in
    let marked : c.mark-mark.result ≡ length was.scope = c.mark-mark.ensures ∙ ap (λ s. length s.scope) c.walk-else-is_empty.view_is in
    let above = declared_above (declarations_in b.decls.items) was.scope p was.found in
    let left : c.leave.new.self ≡ was.scope = back_outside p.procedure labels at inner was.scope _ _ _ above refl kept marked c.leave.ensures in
    let some : 0 < vec_len b.decls = is_more _ _ c.is_empty.ensures c.if-is_empty.false in
    let is : done was.scope p (command_in c.args.command.now) was.found ≡ (block_behind p cs following).found =
    ap (λ a. done was.scope p (command_in a) was.found) b.is ∙ ap (λ a. done was.scope p a was.found) (Block_is b.at b.decls b.commands)
    ∙ block_with_declarations was p b.at b.decls.items cs following inner (omega (arith, some)) refl refl
    in
    let found : c.walk-else-is_empty-2.inside.findings ≡ done was.scope p (command_in c.args.command.now) was.found = ap (λ s. s.found) c.walk-else-is_empty-2.view_is ∙ ap (λ s. s.found) through ∙ sym is in
    stage_by_parts _ _ _ _ left found

pub define-end-requires : goal.define-end-requires
define-end-requires t c =
    let bs = c.args.walk.now.scope in
    let d = c.in-Routine in
    let n = (listed c.args.list d.at d.name.items c.args.walk.now.found).next in
    let mark : c.in_ok-procedure-in-Routine.procedure.mark ≡ length bs = first_of (search rules, grind (arith, common_steps)) in
    let formals : c.begin.new.walk.scope ≡ with_formals n 2 (map mention d.formals.items) bs = first_of (search rules, grind (arith, common_steps)) in
    let left : c.act_inside.new.walk.scope ≡ c.begin.new.walk.scope = first_of (search rules, grind (arith, common_steps)) in
    let above : Above bs c.act_inside.new.walk.scope = rw left (rw formals (formals_above n 2 (map mention d.formals.items) bs)) in
    rw mark (longer bs _ above)

pub define-end-requires-in-Function : goal.define-end-requires-in-Function
define-end-requires-in-Function t c =
    let bs = c.args.walk.now.scope in
    let d = c.in-Function in
    let n = (listed c.args.list d.at d.name.items c.args.walk.now.found).next in
    let mark : c.in_ok-procedure-in-Function.procedure.mark ≡ length bs = first_of (search rules, grind (arith, common_steps)) in
    let formals : c.begin-in-Function.new.walk.scope ≡ with_formals n 2 (map mention d.formals.items) bs = first_of (search rules, grind (arith, common_steps)) in
    let left : c.evaluate.new.walk.scope ≡ c.begin-in-Function.new.walk.scope = first_of (search rules, grind (arith, common_steps)) in
    let above : Above bs c.evaluate.new.walk.scope = rw left (rw formals (formals_above n 2 (map mention d.formals.items) bs)) in
    rw mark (longer bs _ above)

pub define-returns-in_ok-act_inside-in-Routine-clause-scope : goal.define-returns-in_ok-act_inside-in-Routine-clause-scope
define-returns-in_ok-act_inside-in-Routine-clause-scope t c =
    let bs = c.args.walk.now.scope in
    let d = c.in-Routine in
    let n = (listed c.args.list d.at d.name.items c.args.walk.now.found).next in
    let mark : c.in_ok-procedure-in-Routine.procedure.mark ≡ length bs = first_of (search rules, grind (arith, common_steps)) in
    let formals : c.begin.new.walk.scope ≡ with_formals n 2 (map mention d.formals.items) bs = first_of (search rules, grind (arith, common_steps)) in
    let left : c.act_inside.new.walk.scope ≡ c.begin.new.walk.scope = first_of (search rules, grind (arith, common_steps)) in
    let above : Above bs c.act_inside.new.walk.scope = rw left (rw formals (formals_above n 2 (map mention d.formals.items) bs)) in
    ap (λ s. s.scope) c.end.ensures ∙ ap (λ m. drop (length c.act_inside.new.walk.scope - m) c.act_inside.new.walk.scope) mark ∙ back bs _ above

pub define-returns-in_ok-evaluate-in-Function-clause-scope : goal.define-returns-in_ok-evaluate-in-Function-clause-scope
define-returns-in_ok-evaluate-in-Function-clause-scope t c =
    let bs = c.args.walk.now.scope in
    let d = c.in-Function in
    let n = (listed c.args.list d.at d.name.items c.args.walk.now.found).next in
    let mark : c.in_ok-procedure-in-Function.procedure.mark ≡ length bs = first_of (search rules, grind (arith, common_steps)) in
    let formals : c.begin-in-Function.new.walk.scope ≡ with_formals n 2 (map mention d.formals.items) bs = first_of (search rules, grind (arith, common_steps)) in
    let left : c.evaluate.new.walk.scope ≡ c.begin-in-Function.new.walk.scope = first_of (search rules, grind (arith, common_steps)) in
    let above : Above bs c.evaluate.new.walk.scope = rw left (rw formals (formals_above n 2 (map mention d.formals.items) bs)) in
    ap (λ s. s.scope) c.end-in-Function.ensures ∙ ap (λ m. drop (length c.evaluate.new.walk.scope - m) c.evaluate.new.walk.scope) mark ∙ back bs _ above

pub act-returns-in_ok-set_each-in-Assign : goal.act-returns-in_ok-set_each-in-Assign
act-returns-in_ok-set_each-in-Assign t c =
    let b = c.in-Assign in
    let is : command_in c.args.command.now ≡ assign b.at (expressions_in b.dests.items) (expressions_in b.values.items) = ap command_in b.is ∙ Assign_is b.at b.dests b.values in
    rw is (first_of (search rules, grind (arith, common_steps)))

pub act-returns-in_ok-evaluate-in-Call : goal.act-returns-in_ok-evaluate-in-Call
act-returns-in_ok-evaluate-in-Call t c =
    let b = c.in-Call in
    let was = c.args.walk.now in
    let p = c.args.place in
    let many : size (expressions_in b.arguments.items) ≡ c.len.result = size_is_length b.arguments.items ∙ first_of (search rules, grind (arith, common_steps)) in
    let is : done was.scope p (command_in c.args.command.now) was.found ≡ each_evaluated 1 was.scope (deeper 2 p) (expressions_in b.arguments.items) (evaluated Value was.scope (deeper (c.len.result + 2) p) (expression b.callee.value) was.found) =
    ap (λ a. done was.scope p (command_in a) was.found) b.is ∙ ap (λ a. done was.scope p a was.found) (Call_is b.at b.callee b.arguments) ∙ ap (λ n. each_evaluated 1 was.scope (deeper 2 p) (expressions_in b.arguments.items) (evaluated Value was.scope (deeper (n + 2) p) (expression b.callee.value) was.found)) many
    in
    rw is (first_of (search rules, grind (arith, common_steps)))

pub act-returns-then-is_empty : goal.act-returns-then-is_empty
act-returns-then-is_empty t c =
    let b = c.in-Block in
    let was = c.args.walk.now in
    let none : vec_len b.decls ≡ 0 = is_zero _ _ c.is_empty.ensures c.if-is_empty.true in
    let bare : done was.scope c.args.place (command_in c.args.command.now) was.found ≡ each_done was.scope c.args.place (commands_in b.commands.items) was.found =
    ap (λ a. done was.scope c.args.place (command_in a) was.found) b.is ∙ ap (λ a. done was.scope c.args.place a was.found) (Block_is b.at b.decls b.commands) ∙ block_without_declarations was c.args.place b.at b.decls.items (commands_in b.commands.items) (omega (arith, none))
    in
    rw bare (first_of (search rules, grind (arith, common_steps)))

pub declare-returns-then-is_empty : goal.declare-returns-then-is_empty
declare-returns-then-is_empty t c =
    let d = c.in-Constants in
    let none : vec_len d.items ≡ 0 = is_zero _ _ c.is_empty.ensures c.if-is_empty.true in
    let whole : declaration c.args.decl.now ≡ constants d.at d.sort (items_in d.items.items) = cc (Constants_is d.at d.sort d.items) in
    rw whole (no_items_behind c.args.walk.now.scope c.args.place c.args.walk.now.found d.at d.sort d.items.items (omega (arith, none)))

pub declare-returns-then-is_empty-2 : goal.declare-returns-then-is_empty-2
declare-returns-then-is_empty-2 t c =
    let d = c.in-Let in
    let none : vec_len d.defs ≡ 0 = is_zero _ _ c.is_empty-in-Let.ensures c.if-is_empty-2.true in
    let whole : declaration c.args.decl.now ≡ definitions d.at (definitions_in d.defs.items) = cc (Let_is d.at d.defs) in
    rw whole (no_definitions_behind c.args.walk.now.scope c.args.place c.args.walk.now.found d.at d.defs.items (omega (arith, none)))

pub declare-returns-in_ok-manifests-in-Manifest : goal.declare-returns-in_ok-manifests-in-Manifest
declare-returns-in_ok-manifests-in-Manifest t c =
    let d = c.in-Constants in
    let some : 0 < vec_len d.items = is_more _ _ c.is_empty.ensures c.if-is_empty.false in
    let whole : declaration c.args.decl.now ≡ constants d.at s.Manifest (items_in d.items.items) = cc (Constants_is d.at d.sort d.items) in
    let reported : c.manifests.new.walk ≡ manifests c.args.walk.now.found.next c.args.place.procedure (items_in d.items.items) (record { scope = c.args.walk.now.scope; found = takes c.args.walk.now.found }) = first_of (search rules, grind (arith, common_steps)) in
    rw whole (ap (at c.args.place) reported ∙ manifests_behind c.args.walk.now.scope c.args.place c.args.walk.now.found d.at d.items.items (omega (arith, some)))

pub declare-returns-in_ok-statics-in-Static : goal.declare-returns-in_ok-statics-in-Static
declare-returns-in_ok-statics-in-Static t c =
    let d = c.in-Constants in
    let some : 0 < vec_len d.items = is_more _ _ c.is_empty.ensures c.if-is_empty.false in
    let whole : declaration c.args.decl.now ≡ constants d.at s.Static (items_in d.items.items) = cc (Constants_is d.at d.sort d.items) in
    let reported : c.statics.new.walk ≡ statics c.args.walk.now.scope c.args.walk.now.found.next c.args.place.procedure (items_in d.items.items) (record { scope = c.args.walk.now.scope; found = takes c.args.walk.now.found }) = first_of (search rules, grind (arith, common_steps)) in
    rw whole (ap (at c.args.place) reported ∙ statics_behind c.args.walk.now.scope c.args.place c.args.walk.now.found d.at d.items.items (omega (arith, some)))

pub declare-returns-in_ok-globals-in-Global : goal.declare-returns-in_ok-globals-in-Global
declare-returns-in_ok-globals-in-Global t c =
    let d = c.in-Constants in
    let some : 0 < vec_len d.items = is_more _ _ c.is_empty.ensures c.if-is_empty.false in
    let whole : declaration c.args.decl.now ≡ constants d.at s.Global (items_in d.items.items) = cc (Constants_is d.at d.sort d.items) in
    let reported : c.globals.new.walk ≡ globals c.args.walk.now.scope c.args.walk.now.found.next c.args.place.procedure (items_in d.items.items) (record { scope = c.args.walk.now.scope; found = takes c.args.walk.now.found }) = first_of (search rules, grind (arith, common_steps)) in
    rw whole (ap (at c.args.place) reported ∙ globals_behind c.args.walk.now.scope c.args.place c.args.walk.now.found d.at d.items.items (omega (arith, some)))

pub declare-returns-in_ok-enter-in-Let : goal.declare-returns-in_ok-enter-in-Let
declare-returns-in_ok-enter-in-Let t c =
    let d = c.in-Let in
    let some : 0 < vec_len d.defs = is_more _ _ c.is_empty-in-Let.ensures c.if-is_empty-2.false in
    let ds = definitions_in d.defs.items in
    let bs = c.args.walk.now.scope in
    let f = c.args.walk.now.found in
    let t = c.enter_procedures.new.walk in
    let whole : declaration c.args.decl.now ≡ definitions d.at ds = cc (Let_is d.at d.defs) in
    let entered : t ≡ with_procedures ds (record { scope = bs; found = takes f }) = first_of (search rules, grind (arith, common_steps)) in
    let made : ◌≡◌ {A = Defined} (record { fresh = c.define_each.new.fresh; place = c.in_ok-following-in-Let.following; found = c.define_each.new.walk.found }) (defined f.next t.scope ds (record { fresh = []; place = c.args.place; found = t.found })) = first_of (search rules, grind (arith, common_steps)) in
    let scope : c.enter.new.table ≡ bind_all c.define_each.new.fresh t.scope = first_of (search rules, grind (arith, common_steps)) in
    let found : c.walk-in-Let-3.inside.findings ≡ c.define_each.new.walk.found = first_of (search rules, grind (arith, common_steps)) in
    rw whole (let_behind bs c.args.place f d.at d.defs.items t _ _ _ _ (omega (arith, some)) entered made scope refl found)

pub define-returns-in_ok-list_names-in-Variables-clause-found :
    goal.define-returns-in_ok-list_names-in-Variables-clause-found
define-returns-in_ok-list_names-in-Variables-clause-found t c =
    let d = c.in-Variables in
    let bs = c.args.walk.now.scope in
    let xs = map mention d.names.items in
    let is = starts_in d.starts.items in
    let whole : definition c.args.def.now ≡ variables d.at xs is = cc (Variables_is d.at d.names d.starts) in
    let scope : c.walk.inside.table ≡ bs = first_of (search rules, grind (arith, common_steps)) in
    let names : map mention c.deref-in-Variables-2.result.now ≡ xs = first_of (search rules, grind (arith, common_steps)) in
    let starts : starts_in c.deref-in-Variables-3.result.now ≡ is = first_of (search rules, grind (arith, common_steps)) in
    let found : c.list_names.new.findings ≡ all_listed c.args.list xs c.args.walk.now.found = first_of (search rules, grind (arith, common_steps)) in
    rw whole (variables_behind c.args.list bs (record { fresh = c.args.fresh.now; place = c.args.place; found = c.args.walk.now.found }) d.at xs is
    c.start_each.result c.start_each.new.fresh c.start_each.new.walk.found c.walk.inside.table (map mention c.deref-in-Variables-2.result.now) (starts_in c.deref-in-Variables-3.result.now) c.list_names.new.findings
    scope names starts found c.start_each.ensures.fresh c.start_each.ensures.found c.start_each.ensures.place)

pub evaluate-returns-in_ok-evaluate-in-Apply : goal.evaluate-returns-in_ok-evaluate-in-Apply
evaluate-returns-in_ok-evaluate-in-Apply t c =
    let b = c.in-Apply in
    let was = c.args.walk.now in
    let p = c.args.place in
    let r = c.args.role.now in
    let many : size (expressions_in b.arguments.items) ≡ c.len.result = size_is_length b.arguments.items ∙ first_of (search rules, grind (arith, common_steps)) in
    let node : expression c.args.expr.now ≡ apply b.at b.sign (expression b.callee.value) (expressions_in b.arguments.items) = ap expression b.is ∙ Apply_is b.at b.sign b.callee b.arguments in
    let is : evaluated r was.scope p (expression c.args.expr.now) was.found ≡ each_evaluated 1 was.scope (deeper 2 p) (expressions_in b.arguments.items) (evaluated Value was.scope (deeper (c.len.result + 2) p) (expression b.callee.value) (without_word r was.scope p.procedure (expression c.args.expr.now) was.found)) =
    rw node (ap (λ n. each_evaluated 1 was.scope (deeper 2 p) (expressions_in b.arguments.items) (evaluated Value was.scope (deeper (n + 2) p) (expression b.callee.value) (without_word r was.scope p.procedure (apply b.at b.sign (expression b.callee.value) (expressions_in b.arguments.items)) was.found))) many)
    in
    rw is (first_of (search rules, grind (arith, common_steps)))

pub evaluate-returns-in_ok-constants-in-Table : goal.evaluate-returns-in_ok-constants-in-Table
evaluate-returns-in_ok-constants-in-Table t c =
    let b = c.in-Table in
    let is : expression c.args.expr.now ≡ table b.at (expressions_in b.items.items) = ap expression b.is ∙ Table_is b.at b.items in
    rw is (first_of (search rules, grind (arith, common_steps)))

pub start_each-returns-clause-fresh : goal.start_each-returns-clause-fresh
start_each-returns-clause-fresh t c =
    let l = c.loop-index in
    let bs = c.args.walk.now.scope in
    let none : drop l.index c.args.starts.now ≡ [] = first_of (search rules, grind (arith, common_steps)) in
    sym (ap (λ xs. l.fresh ++ xs) (ap (λ is. variables_of bs l.next (map mention (drop l.index c.args.names.now)) (starts_in is)) none ∙ no_variables bs l.next (map mention (drop l.index c.args.names.now))) ∙ append-nil l.fresh)
    ∙ l.invariant.fresh

pub start_each-loop-index-preserved : goal.start_each-loop-index-preserved
start_each-loop-index-preserved t c =
    let v = c.loop-index.invariant in
    let p = c.loop-index.next in
    let i = c.loop-index.index in
    let s = c.index-starts-index.result in
    let ss = c.args.starts.now in
    let xs = c.args.names.now in
    let lt = c.loop-index-test.true in
    let is = c.index-starts-index.is in
    rw c.deeper-next.ensures (rw c.in_ok-words.ensures.words record {
      scope = c.in_ok-words.ensures.scope ∙ v.scope;
      found = rw c.in_ok-words.ensures.found (rw v.scope (found_after c.args.walk.now.scope p ss i s lt is c.loop-index.walk.found ∙ v.found));
      place = rw v.scope (place_then c.args.walk.now.scope p ss i s lt is ∙ v.place);
      fresh = elim c.match-get.branch [
        | start_each-in-Some+in_ok-add w ↦
            let more : i < length xs = first_of (search rules, grind (arith, common_steps)) in
            let named : w.in-Some.name.now ≡ get_or xs i w.in-Some.name.now = w.in-Some.ensures.lookup.1 in
            rw w.fresh-is (rw w.in_ok-add.ensures (rw w.deref.ensures (rw w.deeper-value.ensures (rw c.in_ok-words.ensures.words (rw v.scope
            (fresh_after c.args.walk.now.scope p ss i s lt is xs w.in-Some.name.now c.loop-index.fresh more named ∙ v.fresh))))))
        | start_each-in_default w ↦
            let none : length xs ≤ i = first_of (search rules, grind (arith, common_steps)) in
            rw w.fresh-is (rw v.scope (fresh_without c.args.walk.now.scope p ss i s lt is xs c.loop-index.fresh none ∙ v.fresh))
      ];
    })
