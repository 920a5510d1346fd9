-- Calls, of a procedure of the program and of a library routine.
use Rattle.std.specs.Prelude.{ℕ, suc, Option, Some, None, List, [], ◌∷◌, length}
use Rattle.bk_tree.specs.Tree as t
use Rattle.bk_tree.specs.Tree.{Mention, Expression, Expressions, Command, Commands, Declaration, Declarations, Definition, Definitions, Starts}
use Rattle.bk_meaning.specs.Values.{Value, procedure, routine, unset, Cell, holds}
use Rattle.bk_meaning.specs.Causes.{no_place, no_procedure}
use Rattle.bk_meaning.specs.World.{World, Exit, return, Outcome, gives, leaves, undefined, each_way, with, making, closing, calling, calls_back}
use Rattle.bk_meaning.specs.Environment.{Environment, cell, bind, past}
use Rattle.bk_meaning.specs.Lasting.{Body, command, expression, Procedure, Program, procedure_of}
use Rattle.bk_meaning.specs.Library.{library}
use Rattle.bk_meaning.specs.Seeking.{forwards}
use Rattle.bk_meaning.specs.Parts.{Meanings}
use Rattle.bk_meaning.specs.Scopes.{scope_of, alone}

-- values from left to right
abbrev pub values : Meanings → Expressions → Environment → World → Outcome (List Value)
values m t.none env w = gives [] w
values m (t.more e es) env w = with (m.value e env w) (λ v w. with (values m es (past e env) w) (λ vs w. gives (v ∷ vs) w))

-- A call. The formals are one object, of a cell for each: missing arguments are unset, further ones are dropped. A procedure
-- with BE gives nothing that is set.
abbrev pub formal_cells : List (List ℕ) → List Value → List Cell
formal_cells [] vs = []
formal_cells (x ∷ xs) [] = holds unset ∷ formal_cells xs []
formal_cells (x ∷ xs) (v ∷ vs) = holds v ∷ formal_cells xs vs

abbrev pub bind_formals : ℕ → ℕ → List (List ℕ) → Environment → Environment
bind_formals object i [] env = env
bind_formals object i (x ∷ xs) env = bind_formals object (suc i) xs (bind x (cell object i) env)

-- RETURN ends a procedure with BE
abbrev pub return_exit : Exit → World → Outcome Value
return_exit return w = gives unset w
return_exit x w = leaves x w

abbrev pub run_body : Meanings → Body → Environment → World → Outcome Value
run_body m (command c) env w = each_way (λ _ w. gives unset w) return_exit (scope_of m (alone c) forwards env w)
run_body m (expression e) env w = m.value e env w

abbrev pub enter : Meanings → ℕ → Option Procedure → List Value → World → Outcome Value
enter m l None vs w = undefined l no_place w
enter m l (Some p) vs w =
    closing (length w.memory) (run_body m p.body (bind_formals (length w.memory) 0 p.formals p.env) (making (formal_cells p.formals vs) w))

abbrev pub called : Program → Meanings → ℕ → Value → List Value → World → Outcome Value
called p m l (procedure n) vs w = enter m l (procedure_of p n) vs w
called p m l (routine r) vs w = library l r vs w
called p m l v vs w = undefined l (no_procedure v) w

-- While it runs a further call is active. After it n are. No other exit leaves a procedure.
abbrev pub returned : ℕ → ℕ → Outcome Value → Outcome Value
returned l n u = each_way (λ v after. gives v (calls_back n after)) (λ x w. undefined l no_place w) u

abbrev pub call : Program → Meanings → ℕ → Value → List Value → World → Outcome Value
call p m l f vs w = returned l w.calls (called p m l f vs (calling w))

-- the arguments, then the procedure
abbrev pub applied : Program → Meanings → ℕ → Expression → Expressions → Environment → World → Outcome Value
applied p m l f es env w = with (values m es (past f env) w) (λ vs w. with (m.value f env w) (λ v w. call p m l v vs w))
