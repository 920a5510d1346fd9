-- Loops: WHILE, UNTIL, REPEAT, REPEATWHILE, REPEATUNTIL and FOR.
use Rattle.std.specs.Prelude.{ℕ, ◌^◌, nat_lt, Bool, true, false, not, cond, Option, Some, [], ◌∷◌, length}
use Rattle.bk_tree.specs.declared.tree.Operator.{Operator}
use Rattle.bk_tree.specs.declared.tree.Operator.TheVariants as o
use Rattle.bk_tree.specs.Tree as t
use Rattle.bk_tree.specs.Tree.{Mention, Expression, Expressions, Command, Commands, Declaration, Declarations, Definition, Definitions, Starts}
use Rattle.bk_meaning.specs.Values.{Value, number, address, holds}
use Rattle.bk_meaning.specs.World.{World, Exit, break, loop, Outcome, leaves, each_way, with, Done, done, either, turn, making, closing}
use Rattle.bk_meaning.specs.Operators.{operate}
use Rattle.bk_meaning.specs.Environment.{Environment, cell, bind, past, past_command, constant_in}
use Rattle.bk_meaning.specs.Seeking.{Mode, forwards}
use Rattle.bk_meaning.specs.Parts.{store, Meanings, fetch, at}
use Rattle.bk_meaning.specs.Scopes.{scope_of, alone}
use Rattle.bk_meaning.specs.Expressions.{judged}

-- LOOP goes to the next round, BREAK out of the loop.
abbrev pub round_exit : (World → Outcome Done) → Exit → World → Outcome Done
round_exit next loop w = next w
round_exit next break w = done w
round_exit next x w = leaves x w

abbrev pub again : Outcome Done → (World → Outcome Done) → Outcome Done
again u next = each_way (λ _ w. next w) (round_exit next) u

abbrev pub same_truth : Bool → Bool → Bool
same_truth true b = b
same_truth false b = not b

-- goes on where the condition has this truth
abbrev pub where_truth : Meanings → Bool → Expression → Environment → (World → Outcome Done) → World → Outcome Done
where_truth m b e env go w = with (m.truth e env w) (λ x w. either (same_truth b x) go done w)

-- A round, and those after it: a further one takes a turn. The first may begin at a place that is sought; then the loop goes on.
abbrev pub rounds_of : Meanings → Command → Mode → Environment → World → Outcome Done
rounds_of m (t.while l b e c) mode env w =
    again (m.act c mode (past e env) w) (λ w. where_truth m b e env (λ w. turn l w (λ w. m.rounds (t.while l b e c) forwards env w)) w)
rounds_of m (t.repeat l c) mode env w = again (m.act c mode env w) (λ w. turn l w (λ w. m.rounds (t.repeat l c) forwards env w))
rounds_of m (t.repeat_while l b c e) mode env w =
    again (m.act c mode env w) (λ w. where_truth m b e (past_command c env) (λ w. turn l w (λ w. m.rounds (t.repeat_while l b c e) forwards env w)) w)
rounds_of m c mode env w = done w

-- FOR: the variable, which is an object, is compared with the limit, and the step is added to it.
abbrev pub step_of : Environment → Expressions → Option ℕ
step_of env t.none = Some 1
step_of env (t.more e es) = constant_in env e

abbrev pub relation : ℕ → Operator
relation step = cond (nat_lt step (2 ^ 31)) o.AtMost o.AtLeast

abbrev pub for_test : ℕ → ℕ → Value → ℕ → (World → Outcome Done) → World → Outcome Done
for_test l object limit step go w =
    with (fetch l (address object 0) w) (λ v w.
    with (operate l (relation step) v limit w) (λ v w. with (judged l v w) (λ b w. either b go done w)))

abbrev pub for_step : ℕ → ℕ → ℕ → World → Outcome Done
for_step l object step w =
    with (fetch l (address object 0) w) (λ v w. with (operate l o.Add v (number step) w) (λ v w. store l (at (address object 0)) v w))

abbrev pub for_rounds_of : Meanings → ℕ → Command → ℕ → Value → ℕ → Environment → World → Outcome Done
for_rounds_of m l c object limit step env w =
    again (scope_of m (alone c) forwards env w) (λ w. with (for_step l object step w) (λ _ w.
    for_test l object limit step (λ w. turn l w (λ w. m.for_rounds l c object limit step env w)) w))

abbrev pub for_loop : Meanings → Mention → Command → Value → Value → ℕ → Environment → World → Outcome Done
for_loop m x c start limit step env w =
    let object : ℕ = length w.memory in
    closing object (for_test x.at object limit step (λ w.
    for_rounds_of m x.at c object limit step (bind x.letters (cell object 0) env) w) (making (holds start ∷ []) w))
