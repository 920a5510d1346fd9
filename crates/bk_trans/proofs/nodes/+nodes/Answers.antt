use Rattle.bk_trans.proofs.Terms.{rules, arith, ◌≡◌, ◌+◌, ◌<◌, true, [], map, ap, ◌∙◌, sym, size, Sort as sort, Stack, Store, CallFunction, Aim as aim, step_of, looping, Reached, reached, after, puts, puts_drafts, puts_all, with_code, takes_labels, past_step, before_body, ends_for, aimed, written, each_written, act_written, each_act_written, acted_apart, declared, defined, any_variables}
use Rattle.std.proofs.lemmas.Grind.{common_steps}
use Rattle.std.specs.Vec.{vec_len}
use Rattle.bk_tree.specs.Tree.{expression, expressions_in, command_in, commands_in, declaration, declarations_in, items_in, definition, definitions_in, starts_in, step_in, mention, table, assign, call, constants, definitions, variables}
use Rattle.bk_tree.proofs.Lemmas.{Constants_is, Let_is, Variables_is, Apply_is, Table_is, Assign_is, Call_is, Block_is, For_is, expressions_count, is_zero, is_more}
use Rattle.bk_trans.proofs.Blocks.{without_declarations, with_declarations, block_in, with_variables, apply_written, for_written}
use Rattle.bk_trans.proofs.nodes.+nodes.Goals as goal

pub act-returns-in_ok-each_store-in-Assign : goal.act-returns-in_ok-each_store-in-Assign
act-returns-in_ok-each_store-in-Assign t c =
    let b = c.in-Assign in
    let is : command_in c.args.command.now ≡ assign b.at (expressions_in b.destinations.items) (expressions_in b.values.items) = ap command_in b.is ∙ Assign_is b.at b.destinations b.values in
    rw is (first_of (search rules, grind (arith, common_steps)))

pub act-returns-in_ok-put_all-in-Call : goal.act-returns-in_ok-put_all-in-Call
act-returns-in_ok-put_all-in-Call t c =
    let b = c.in-Call in
    let many : size (expressions_in b.arguments.items) ≡ c.len.result = expressions_count b.arguments.items ∙ first_of (search rules, grind (arith, common_steps)) in
    let is : command_in c.args.command.now ≡ call b.at (expression b.callee.value) (expressions_in b.arguments.items) = ap command_in b.is ∙ Call_is b.at b.callee b.arguments in
    rw is (rw many (first_of (search rules, grind (arith, common_steps))))

pub act-returns-in_ok-act_apart-in-For : goal.act-returns-in_ok-act_apart-in-For
act-returns-in_ok-act_apart-in-For t c =
    let b = c.in-For in
    let s = c.args.depth in
    let n = c.labels-first-in-For.result in
    let e1 : n ≡ c.args.out.now.next = first_of (search rules, grind (arith, common_steps)) in
    let e2 : c.labels-first-in-For.new.self ≡ takes_labels 4 c.args.out.now = first_of (search rules, grind (arith, common_steps)) in
    let e3 : c.value-in-For.new.out ≡ written s aim.Value (expression b.from.value) c.labels-first-in-For.new.self = first_of (search rules, grind (arith, common_steps)) in
    let e4 : c.value-in-For-2.new.out ≡ written (after s 1) aim.Value (expression b.to.value) c.value-in-For.new.out = first_of (search rules, grind (arith, common_steps)) in
    let e5 : c.step-step.result ≡ (step_of (step_in b.by) c.value-in-For-2.new.out.left).part = first_of (search rules, grind (arith, common_steps)) in
    let e6 : c.step-step.new.self ≡ past_step (step_in b.by) c.value-in-For-2.new.out = first_of (search rules, grind (arith, common_steps)) in
    let e7 : c.begin_for.new.self ≡ puts_all (before_body n) c.step-step.new.self = first_of (search rules, grind (arith, common_steps)) in
    let e8 : c.looping-inner.result ≡ looping (after n 2) (after n 3) (after s 2) c.args.around = first_of (search rules, grind (arith, common_steps)) in
    let e9 : c.act_apart.new.out ≡ acted_apart c.looping-inner.result (after s 2) (command_in b.body.value) c.begin_for.new.self = first_of (search rules, grind (arith, common_steps)) in
    let is : act_written c.args.around s (command_in c.args.command.now) c.args.out.now ≡ ends_for n s c.step-step.result c.act_apart.new.out =
    ap (λ x. act_written c.args.around s (command_in x) c.args.out.now) b.is ∙ ap (λ x. act_written c.args.around s x c.args.out.now) (For_is b.at b.name b.from b.to b.by b.body)
    ∙ for_written c.args.around c.looping-inner.result s b.at (mention b.name) (expression b.from.value) (expression b.to.value) (step_in b.by) (command_in b.body.value) c.args.out.now _ _ _ _ _ _ n _ e1 e2 e3 e4 e5 e6 e7 e8 e9
    in
    rw is (first_of (search rules, grind (arith, common_steps)))

pub act-returns-then-is_empty : goal.act-returns-then-is_empty
act-returns-then-is_empty t c =
    let b = c.in-Block in
    let none : vec_len b.decls ≡ 0 = is_zero _ _ c.is_empty.ensures c.if-is_empty.true in
    let is : act_written c.args.around c.args.depth (command_in c.args.command.now) c.args.out.now ≡ each_act_written c.args.around c.args.depth (commands_in b.commands.items) c.args.out.now =
    ap (λ x. act_written c.args.around c.args.depth (command_in x) c.args.out.now) b.is ∙ ap (λ x. act_written c.args.around c.args.depth x c.args.out.now) (Block_is b.at b.decls b.commands)
    ∙ without_declarations c.args.around c.args.depth b.at b.decls.items (commands_in b.commands.items) c.args.out.now (omega (arith, none))
    in
    rw is (first_of (search rules, grind (arith, common_steps)))

pub act-returns-in_ok-each_act_apart-in-Block : goal.act-returns-in_ok-each_act_apart-in-Block
act-returns-in_ok-each_act_apart-in-Block t c =
    let b = c.in-Block in
    let some : 0 < vec_len b.decls = is_more _ _ c.is_empty.ensures c.if-is_empty.false in
    let reported : ◌≡◌ {A = Reached} (reached c.in_ok-inside-in-Block.inside c.declare_each.new.out) (declared (declarations_in b.decls.items) (reached c.args.depth c.args.out.now)) = first_of (search rules, grind (arith, common_steps)) in
    let is : act_written c.args.around c.args.depth (command_in c.args.command.now) c.args.out.now ≡ block_in c.args.around c.args.depth (commands_in b.commands.items) (reached c.in_ok-inside-in-Block.inside c.declare_each.new.out) =
    ap (λ x. act_written c.args.around c.args.depth (command_in x) c.args.out.now) b.is ∙ ap (λ x. act_written c.args.around c.args.depth x c.args.out.now) (Block_is b.at b.decls b.commands)
    ∙ with_declarations c.args.around c.args.depth b.at b.decls.items (commands_in b.commands.items) c.args.out.now (omega (arith, some))
    ∙ ap (block_in c.args.around c.args.depth (commands_in b.commands.items)) (sym reported)
    in
    rw is (first_of (search rules, grind (arith, common_steps)))

pub value-returns-in_ok-put-in-Apply-2 : goal.value-returns-in_ok-put-in-Apply-2
value-returns-in_ok-put-in-Apply-2 t c =
    let b = c.in-Apply in
    let s = c.args.depth in
    let es = expressions_in b.arguments.items in
    let many : size es ≡ c.len.result = expressions_count b.arguments.items ∙ first_of (search rules, grind (arith, common_steps)) in
    let e1 : c.value-in-Apply.new.out ≡ written (after s (size es + 2)) aim.Value (expression b.callee.value) (with_code [] c.args.out.now) = rw many (first_of (search rules, grind (arith, common_steps))) in
    let e2 : c.resume-called.new.self ≡ with_code c.args.out.now.code c.value-in-Apply.new.out = first_of (search rules, grind (arith, common_steps)) in
    let e3 : c.put-in-Apply.new.self ≡ puts (Stack (after s 2)) c.resume-called.new.self = first_of (search rules, grind (arith, common_steps)) in
    let e4 : c.each_value.new.out ≡ each_written (after s 2) es c.put-in-Apply.new.self = first_of (search rules, grind (arith, common_steps)) in
    let e5 : c.resume-called.result.items ≡ c.value-in-Apply.new.out.code = first_of (search rules, grind (arith, common_steps)) in
    let e6 : c.put_all.new.self ≡ puts_drafts c.resume-called.result.items c.each_value.new.out = first_of (search rules, grind (arith, common_steps)) in
    let e7 : c.put-in-Apply-2.new.self ≡ puts (CallFunction s) c.put_all.new.self = first_of (search rules, grind (arith, common_steps)) in
    let is : written s c.args.aim (expression c.args.expr.now) c.args.out.now ≡ aimed c.args.aim c.put-in-Apply-2.new.self =
    ap (λ x. written s c.args.aim (expression x) c.args.out.now) b.is ∙ ap (λ x. written s c.args.aim x c.args.out.now) (Apply_is b.at b.sign b.callee b.arguments)
    ∙ apply_written s c.args.aim b.at b.sign (expression b.callee.value) es c.args.out.now _ _ _ _ _ _ _ e1 e2 e3 e4 e5 e6 e7
    in
    rw is (first_of (search rules, grind (arith, common_steps)))

pub value-returns-in_ok-put_table-in-Table : goal.value-returns-in_ok-put_table-in-Table
value-returns-in_ok-put_table-in-Table t c =
    let b = c.in-Table in
    let is : expression c.args.expr.now ≡ table b.at (expressions_in b.items.items) = ap expression b.is ∙ Table_is b.at b.items in
    rw is (first_of (search rules, grind (arith, common_steps)))

pub declare-returns-in_ok-put_items-in-Static : goal.declare-returns-in_ok-put_items-in-Static
declare-returns-in_ok-put_items-in-Static t c =
    let d = c.in-Constants in
    let whole : declaration c.args.decl.now ≡ constants d.at sort.Static (items_in d.items.items) = cc (Constants_is d.at d.sort d.items) in
    rw whole (first_of (search rules, grind (arith, common_steps)))

pub declare-returns-in-Manifest : goal.declare-returns-in-Manifest
declare-returns-in-Manifest t c =
    let d = c.in-Constants in
    let whole : declaration c.args.decl.now ≡ constants d.at sort.Manifest (items_in d.items.items) = cc (Constants_is d.at d.sort d.items) in
    rw whole (first_of (search rules, grind (arith, common_steps)))

pub declare-returns-in-Global : goal.declare-returns-in-Global
declare-returns-in-Global t c =
    let d = c.in-Constants in
    let whole : declaration c.args.decl.now ≡ constants d.at sort.Global (items_in d.items.items) = cc (Constants_is d.at d.sort d.items) in
    rw whole (first_of (search rules, grind (arith, common_steps)))

pub declare-returns-in_ok-put-in-Let : goal.declare-returns-in_ok-put-in-Let
declare-returns-in_ok-put-in-Let t c =
    let d = c.in-Let in
    let ds = definitions_in d.defs.items in
    let whole : declaration c.args.decl.now ≡ definitions d.at ds = cc (Let_is d.at d.defs) in
    let made : ◌≡◌ {A = Reached} (reached c.in_ok-following-in-Let.following c.define_each.new.out) (defined ds (reached c.args.depth c.args.out.now)) = first_of (search rules, grind (arith, common_steps)) in
    let has : any_variables ds ≡ true = first_of (search rules, grind (arith, common_steps)) in
    let put : c.put.new.self ≡ puts Store c.define_each.new.out = first_of (search rules, grind (arith, common_steps)) in
    rw whole (with_variables d.at ds (reached c.args.depth c.args.out.now) c.in_ok-following-in-Let.following c.define_each.new.out c.put.new.self made has put)

pub declare-returns-else-has_variables : goal.declare-returns-else-has_variables
declare-returns-else-has_variables t c =
    let d = c.in-Let in
    let whole : declaration c.args.decl.now ≡ definitions d.at (definitions_in d.defs.items) = cc (Let_is d.at d.defs) in
    rw whole (first_of (search rules, grind (arith, common_steps)))

pub define-returns-in-Variables : goal.define-returns-in-Variables
define-returns-in-Variables t c =
    let d = c.in-Variables in
    let whole : definition c.args.def.now ≡ variables d.at (map mention d.names.items) (starts_in d.starts.items) = cc (Variables_is d.at d.names d.starts) in
    rw whole (first_of (search rules, grind (arith, common_steps)))
