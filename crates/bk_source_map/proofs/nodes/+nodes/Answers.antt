use Rattle.std.proofs.lemmas.Grind.{common_steps}
use Rattle.bk_tree.specs.Tree.{expression, expressions_in, command_in, commands_in, declaration, declarations_in, definition, definitions_in, starts_in, step_in, mention, apply, assign, call, for_loop, block, definitions, variables}
use Rattle.bk_tree.proofs.Lemmas.{Let_is, Variables_is, Apply_is, Assign_is, Call_is, Block_is, For_is}
use Rattle.bk_source_map.proofs.Steps.{turns_ended, rules, arith, ◌≡◌, ◌++◌, ℕ, List, append-nil, map, refl, sym, ap, ◌∙◌}
use Rattle.bk_source_map.proofs.nodes.+nodes.Goals as goal

pub act-returns-after-loop-i : goal.act-returns-after-loop-i
act-returns-after-loop-i t c =
    let b = c.in-Assign in
    let is : command_in c.args.command.now ≡ assign b.at (expressions_in b.destinations.items) (expressions_in b.values.items) = ap command_in b.is ∙ Assign_is b.at b.destinations b.values in
    rw is (
    sym (append-nil c.loop-i.out.places.items)
    ∙ ap (λ (xs : List ℕ). c.loop-i.out.places.items ++ xs) (sym (turns_ended c.as_slice-from.result.now c.as_slice-to.result.now c.loop-i.i (omega (arith, c.loop-i-test.false, c.min-i-end.ensures))))
    ∙ c.loop-i.invariant ∙ (rw c.as_slice-from.ensures.value (rw c.as_slice-to.ensures.value refl)))

pub act-returns-in_ok-value-in-Call : goal.act-returns-in_ok-value-in-Call
act-returns-in_ok-value-in-Call t c =
    let b = c.in-Call in
    let is : command_in c.args.command.now ≡ call b.at (expression b.callee.value) (expressions_in b.arguments.items) = ap command_in b.is ∙ Call_is b.at b.callee b.arguments in
    rw is (first_of (search rules, grind (arith, common_steps)))

pub act-returns-in_ok-put-in-For-2 : goal.act-returns-in_ok-put-in-For-2
act-returns-in_ok-put-in-For-2 t c =
    let b = c.in-For in
    let is : command_in c.args.command.now ≡ for_loop b.at (mention b.name) (expression b.from.value) (expression b.to.value) (step_in b.by) (command_in b.body.value) =
    ap command_in b.is ∙ For_is b.at b.name b.from b.to b.by b.body in
    rw is (first_of (search rules, grind (arith, common_steps)))

pub act-returns-in_ok-each_act-in-Block : goal.act-returns-in_ok-each_act-in-Block
act-returns-in_ok-each_act-in-Block t c =
    let b = c.in-Block in
    let is : command_in c.args.command.now ≡ block b.at (declarations_in b.decls.items) (commands_in b.commands.items) = ap command_in b.is ∙ Block_is b.at b.decls b.commands in
    rw is (first_of (search rules, grind (arith, common_steps)))

pub declare-returns-in_ok-define_each-in-Let : goal.declare-returns-in_ok-define_each-in-Let
declare-returns-in_ok-define_each-in-Let t c =
    let b = c.in-Let in
    let is : declaration c.args.decl.now ≡ definitions b.at (definitions_in b.defs.items) = ap declaration b.is ∙ Let_is b.at b.defs in
    rw is (first_of (search rules, grind (arith, common_steps)))

pub define-returns-in-Variables : goal.define-returns-in-Variables
define-returns-in-Variables t c =
    let b = c.in-Variables in
    let is : definition c.args.def.now ≡ variables b.at (map mention b.names.items) (starts_in b.starts.items) = ap definition b.is ∙ Variables_is b.at b.names b.starts in
    rw is (first_of (search rules, grind (arith, common_steps)))

pub value-returns-in_ok-put-in-Apply-2 : goal.value-returns-in_ok-put-in-Apply-2
value-returns-in_ok-put-in-Apply-2 t c =
    let b = c.in-Apply in
    let is : expression c.args.expr.now ≡ apply b.at b.sign (expression b.callee.value) (expressions_in b.arguments.items) = ap expression b.is ∙ Apply_is b.at b.sign b.callee b.arguments in
    rw is (first_of (search rules, grind (arith, common_steps)))
