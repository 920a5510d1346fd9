-- Expressions: their value, their truth in a condition, and their place as a destination.
use Rattle.std.specs.Prelude.{ℕ, Bool, true, false, not}
use Rattle.std.specs.Option.{option_map}
use Rattle.bk_base.specs.Word.{truth as truth_word}
use Rattle.bk_tree.specs.declared.tree.Operator.{Operator}
use Rattle.bk_tree.specs.declared.tree.Operator.TheVariants as o
use Rattle.bk_tree.specs.declared.tree.Prefix.TheVariants as q
use Rattle.bk_tree.specs.Tree as t
use Rattle.bk_tree.specs.Tree.{Mention, Expression, Expressions, Command, Commands, Declaration, Declarations, Definition, Definitions, Starts}
use Rattle.bk_meaning.specs.Values.{Value, number, address, unset}
use Rattle.bk_meaning.specs.Causes.{no_place, byte_cause}
use Rattle.bk_meaning.specs.Memory.{read_byte}
use Rattle.bk_meaning.specs.World.{World, Exit, result, Outcome, gives, leaves, undefined, each_way, with, Done, given, either}
use Rattle.bk_meaning.specs.Operators.{sum, sum_cause, truth_of_value, truth_cause, operate, operate_prefix}
use Rattle.bk_meaning.specs.Environment.{Environment, sense_of, past}
use Rattle.bk_meaning.specs.Lasting.{Program}
use Rattle.bk_meaning.specs.Seeking.{forwards}
use Rattle.bk_meaning.specs.Parts.{Target, Meanings, acts_at, fetch, named, address_named, at, byte_at}
use Rattle.bk_meaning.specs.Scopes.{scope_of, alone}
use Rattle.bk_meaning.specs.Calls.{applied}

-- a VALOF has the value of its RESULTIS, or is unset where it ends without one
abbrev pub result_exit : Exit → World → Outcome Value
result_exit (result v) w = gives v w
result_exit x w = leaves x w

abbrev pub result_of : Outcome Done → Outcome Value
result_of u = each_way (λ _ w. gives unset w) result_exit u

-- the address that a target is; a byte has none
abbrev pub address_in : ℕ → Target → World → Outcome Value
address_in l (at a) w = gives a w
address_in l (byte_at a i) w = undefined l no_place w

-- `!` and `%` between two operands, and the other operators
abbrev pub combined : ℕ → Operator → Value → Value → World → Outcome Value
combined l o.Subscript x y w = with (given l (sum_cause x y) (sum w.memory x y) w) (fetch l)
combined l o.Byte x y w = given l (byte_cause x y) (option_map number (read_byte w.memory x y)) w
combined l q x y w = operate l q x y w

-- The value of an expression: operands from left to right.
abbrev pub value_of : Program → Meanings → Expression → Environment → World → Outcome Value
value_of p m (t.name l x) env w = named l (sense_of x env) w
value_of p m (t.number l n) env w = gives (number n) w
value_of p m (t.text l x) env w = gives (address env.next 0) w
value_of p m (t.truth l b) env w = gives (number (truth_word b)) w
value_of p m (t.query l) env w = gives unset w
value_of p m (t.parens l e) env w = m.value e env w
value_of p m (t.unary l q.Contents e) env w = with (m.value e env w) (fetch l)
value_of p m (t.unary l q.Address e) env w = with (m.target e env w) (address_in l)
value_of p m (t.unary l q e) env w = with (m.value e env w) (operate_prefix l q)
value_of p m (t.binary l q i a b) env w =
    with (m.value a env w) (λ x w. with (m.value b (past a env) w) (λ y w. combined i q x y w))
value_of p m (t.choice l i c a b) env w =
    with (m.truth c env w) (λ x w. either x (λ w. m.value a (past c env) w) (λ w. m.value b (past a (past c env)) w) w)
value_of p m (t.apply l i f es) env w = applied p m i f es env w
value_of p m (t.valof l c) env w = result_of (scope_of m (alone c) forwards env w)
value_of p m (t.table l es) env w = gives (address env.next 0) w

-- the truth of a value
abbrev pub judged : ℕ → Value → World → Outcome Bool
judged l v w = given l (truth_cause v) (truth_of_value w.memory v) w

-- The truth of an expression in a condition: NOT, `&` and `|` go on only until the answer is known.
abbrev pub truth_of : Program → Meanings → Expression → Environment → World → Outcome Bool
truth_of p m (t.parens l e) env w = m.truth e env w
truth_of p m (t.unary l q.Not e) env w = with (m.truth e env w) (λ b w. gives (not b) w)
truth_of p m (t.binary l o.Both i a b) env w =
    with (m.truth a env w) (λ x w. either x (λ w. m.truth b (past a env) w) (λ w. gives false w) w)
truth_of p m (t.binary l o.Either i a b) env w =
    with (m.truth a env w) (λ x w. either x (λ w. gives true w) (λ w. m.truth b (past a env) w) w)
truth_of p m e env w = with (value_of p m e env w) (judged (acts_at e))

-- The place of a destination, and of the operand of `@`.
abbrev pub target_of : Meanings → Expression → Environment → World → Outcome Target
target_of m (t.name l x) env w = address_named l (sense_of x env) w
target_of m (t.parens l e) env w = m.target e env w
target_of m (t.unary l q.Contents e) env w = with (m.value e env w) (λ a w. gives (at a) w)
target_of m (t.binary l o.Subscript i a b) env w =
    with (m.value a env w) (λ x w. with (m.value b (past a env) w) (λ y w. with (given i (sum_cause x y) (sum w.memory x y) w) (λ a w. gives (at a) w)))
target_of m (t.binary l o.Byte i a b) env w =
    with (m.value a env w) (λ x w. with (m.value b (past a env) w) (λ y w. gives (byte_at x y) w))
target_of m e env w = undefined (acts_at e) no_place w
