-- Commands: what each does, forwards or from a place in it that is sought.
use Rattle.std.specs.Prelude.{ℕ, Some, length}
use Rattle.bk_tree.specs.declared.tree.Simple.{Simple}
use Rattle.bk_tree.specs.declared.tree.Simple.TheVariants as k
use Rattle.bk_tree.specs.Tree as t
use Rattle.bk_tree.specs.Tree.{Mention, Expression, Expressions, Command, Commands, Declaration, Declarations, Definition, Definitions, Starts}
use Rattle.bk_meaning.specs.Values.{Value, number}
use Rattle.bk_meaning.specs.Causes.{no_numbers, no_constant}
use Rattle.bk_meaning.specs.World.{World, status, Exit, break, loop, endcase, goto, result, return, Outcome, leaves, ends, undefined, each_way, with, Done, done, given, either, closing}
use Rattle.bk_meaning.specs.Environment.{Environment, past, past_each, past_command, constant_in}
use Rattle.bk_meaning.specs.Lasting.{Program}
use Rattle.bk_meaning.specs.Seeking.{the_label, the_case, the_default, Mode, forwards, seeking, at_place, has_place}
use Rattle.bk_meaning.specs.Parts.{store, Meanings, acts_at}
use Rattle.bk_meaning.specs.Scopes.{in_order, scope_of}
use Rattle.bk_meaning.specs.Calls.{applied}
use Rattle.bk_meaning.specs.Loops.{where_truth, rounds_of, step_of, for_loop}
use Rattle.bk_meaning.specs.Blocks.{declare_all}

-- Assignments are done one after another. Each value comes before its destination. With unequal numbers, which no accepted
-- source has, the pairs that are there are done.
abbrev pub assigned : Meanings → Expressions → Environment → Expressions → Environment → World → Outcome Done
assigned m (t.more x xs) there (t.more e es) env w =
    with (m.value e env w) (λ v w. with (m.target x there w) (λ a w. with (store (acts_at x) a v w) (λ _ w. assigned m xs (past x there) es (past e env) w)))
assigned m xs there es env w = done w

-- SWITCHON runs its body from the CASE of the value, else from the DEFAULT.
abbrev pub case_exit : Exit → World → Outcome Done
case_exit endcase w = done w
case_exit x w = leaves x w

abbrev pub ended_case : Outcome Done → Outcome Done
ended_case u = each_way (λ _ w. done w) case_exit u

abbrev pub choose_case : Meanings → ℕ → Value → Command → Environment → World → Outcome Done
choose_case m l (number n) c env w =
    either (has_place (the_case (Some n)) env c) (λ w. ended_case (m.act c (seeking (the_case (Some n))) env w))
    (λ w. either (has_place the_default env c) (λ w. ended_case (m.act c (seeking the_default) env w)) done w) w
choose_case m l v c env w = undefined l (no_numbers v v) w

abbrev pub simple_exit : Simple → World → Outcome Done
simple_exit k.Break w = leaves break w
simple_exit k.Loop w = leaves loop w
simple_exit k.EndCase w = leaves endcase w
simple_exit k.Return w = leaves return w
simple_exit k.Finish w = ends (status 0) w

-- What a command does, forwards or seeking a place that is in it.
abbrev pub act_of : Program → Meanings → Command → Mode → Environment → World → Outcome Done
act_of p m t.empty mode env w = done w
act_of p m (t.assign l xs es) mode env w = assigned m xs env es (past_each xs env) w
act_of p m (t.call l f es) mode env w = with (applied p m l f es env w) (λ _ w. done w)
act_of p m (t.goto l x) mode env w = leaves (goto x.letters) w
act_of p m (t.label l x c) mode env w = m.act c (at_place (the_label x) mode) env w
act_of p m (t.case_of l e c) mode env w = m.act c (at_place (the_case (constant_in env e)) mode) env w
act_of p m (t.default l c) mode env w = m.act c (at_place the_default mode) env w
act_of p m (t.when l b e c) forwards env w = where_truth m b e env (λ w. m.act c forwards (past e env) w) w
act_of p m (t.when l b e c) (seeking s) env w = m.act c (seeking s) (past e env) w
act_of p m (t.test l e a b) forwards env w =
    with (m.truth e env w) (λ x w. either x (λ w. m.act a forwards (past e env) w) (λ w. m.act b forwards (past_command a (past e env)) w) w)
act_of p m (t.test l e a b) (seeking s) env w =
    either (has_place s env a) (λ w. m.act a (seeking s) (past e env) w) (λ w. m.act b (seeking s) (past_command a (past e env)) w) w
act_of p m (t.while l b e c) forwards env w = where_truth m b e env (λ w. rounds_of m (t.while l b e c) forwards env w) w
act_of p m (t.while l b e c) (seeking s) env w = rounds_of m (t.while l b e c) (seeking s) env w
act_of p m (t.for_loop l x a b h c) mode env w =
    with (m.value a env w) (λ u w. with (m.value b (past a env) w) (λ v w. with (given x.at no_constant (step_of env h) w) (λ n w.
    for_loop m x c u v n (past b (past a env)) w)))
act_of p m (t.switch l e c) forwards env w = with (m.value e env w) (λ v w. choose_case m (acts_at e) v c (past e env) w)
act_of p m (t.switch l e c) (seeking s) env w = ended_case (m.act c (seeking s) (past e env) w)
act_of p m (t.result l e) mode env w = with (m.value e env w) (λ v w. leaves (result v) w)
act_of p m (t.simple l s) mode env w = simple_exit s w
act_of p m (t.block l t.no_declarations cs) mode env w = in_order m cs mode env w
act_of p m (t.block l ds cs) mode env w =
    closing (length w.memory) (with (declare_all m ds env w) (λ env w. scope_of m cs forwards env w))
act_of p m (t.repeat l c) mode env w = rounds_of m (t.repeat l c) mode env w
act_of p m (t.repeat_while l b c e) mode env w = rounds_of m (t.repeat_while l b c e) mode env w
