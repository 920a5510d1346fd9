-- Blocks: what the declarations at the head of one do.
use Rattle.std.specs.Prelude.{ℕ, ◌+◌, Option, Some, None, List, [], ◌∷◌, ◌++◌, length, replicate}
use Rattle.bk_tree.specs.Tree as t
use Rattle.bk_tree.specs.Tree.{Mention, Expression, Expressions, Command, Commands, Declaration, Declarations, Definition, Definitions, Starts}
use Rattle.bk_meaning.specs.Values.{Value, address, unset, Cell, holds}
use Rattle.bk_meaning.specs.Causes.{no_constant}
use Rattle.bk_meaning.specs.World.{World, Outcome, gives, undefined, with, turn, making, making_vec}
use Rattle.bk_meaning.specs.Environment.{Environment, cell, bind, following, past, past_definition, constant_in, within_let, constants_declared, letters, objects_of_definitions}
use Rattle.bk_meaning.specs.Parts.{Meanings, acts_at}

-- Declarations give the environment after them. Of a LET all values come first, in an environment with its
-- procedures; then each name is an object. A VEC is an object, and its value the address of that.
abbrev pub vec_cells : ℕ → List Cell
vec_cells k = replicate (k + 1) (holds unset)

abbrev pub make_vec : ℕ → Option ℕ → World → Outcome Value
make_vec l None w = undefined l no_constant w
make_vec l (Some k) w = gives (address (length w.memory) 0) (making_vec (vec_cells k) w)

abbrev pub starts : Meanings → Starts → Environment → World → Outcome (List Value)
starts m t.no_starts env w = gives [] w
starts m (t.value e is) env w = with (m.value e env w) (λ v w. with (starts m is (past e env) w) (λ vs w. gives (v ∷ vs) w))
starts m (t.vector l e is) env w =
    with (turn l w (λ w. make_vec (acts_at e) (constant_in env e) w)) (λ v w. with (starts m is env w) (λ vs w. gives (v ∷ vs) w))

pub record Start : Type 0 where
  pub name : List ℕ
  pub value : Value

abbrev pub paired : List (List ℕ) → List Value → List Start
paired (x ∷ xs) (v ∷ vs) = record { name = x; value = v } ∷ paired xs vs
paired _ _ = []

abbrev pub let_values : Meanings → Definitions → Environment → World → Outcome (List Start)
let_values m t.no_definitions env w = gives [] w
let_values m (t.define (t.variables l xs is) ds) env w =
    with (turn l w (λ w. starts m is env w)) (λ vs w.
    with (let_values m ds (past_definition (t.variables l xs is) env) w) (λ more w. gives (paired (letters xs) vs ++ more) w))
let_values m (t.define d ds) env w = let_values m ds (past_definition d env) w

abbrev pub bind_variables : List Start → Environment → World → Outcome Environment
bind_variables [] env w = gives env w
bind_variables (s ∷ ss) env w = bind_variables ss (bind s.name (cell (length w.memory) 0) env) (making (holds s.value ∷ []) w)

abbrev pub declare : Meanings → Declaration → Environment → World → Outcome Environment
declare m (t.constants l s is) env w = gives (constants_declared s is env) w
declare m (t.definitions l ds) env w =
    with (let_values m ds (within_let ds env) w) (λ ss w. bind_variables ss (following (objects_of_definitions ds) (within_let ds env)) w)

abbrev pub declare_all : Meanings → Declarations → Environment → World → Outcome Environment
declare_all m t.no_declarations env w = gives env w
declare_all m (t.declare d ds) env w = with (declare m d env w) (λ env w. declare_all m ds env w)
