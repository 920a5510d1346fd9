-- Worlds, and how a run goes on or ends.
use Rattle.std.specs.Prelude.{ℕ, zero, suc, ◌+◌, max, Bool, true, false, Option, Some, None, List, ◌++◌}
use Rattle.bk_meaning.specs.Values.{Value, Cell}
use Rattle.bk_meaning.specs.Causes.{Cause}
use Rattle.bk_meaning.specs.Memory.{Memory, made, dead_from, cells_living}

pub record World : Type 0 where
  pub memory : Memory
  -- the bytes of the input that were not taken
  pub input : List ℕ
  -- the bytes written so far
  pub output : List ℕ
  -- the calls that are active, those of library routines too, and the most there were at once
  pub calls : ℕ
  pub most_calls : ℕ
  -- the most cells that lived at once where a procedure was called or a VEC was made
  pub most_cells : ℕ
  -- the turns that are left
  pub turns : ℕ

-- how a program ends: a division by zero with the position of the node that divides
pub data End : Type 0 where
  status : (word : ℕ) → End
  divide_by_zero : (at : ℕ) → End
  -- there is no START
  no_start : End

-- Where control goes in place of the next command: out of a loop, to its next round, out of a SWITCHON, to a label, out of a
-- VALOF with its result, out of a procedure.
pub data Exit : Type 0 where
  break : Exit
  loop : Exit
  endcase : Exit
  goto : (label : List ℕ) → Exit
  result : (value : Value) → Exit
  return : Exit

-- What results from an expression or a command: something is given and the run goes on, or it is left by an exit, or the program
-- ends; or an act is undefined, at the position of the node that acts, for a cause, in the world before it; or no turn is left
-- for the node at a position.
pub data Outcome (A : Type 0) : Type 0 where
  gives : (what : A) (w : World) → Outcome A
  leaves : (exit : Exit) (w : World) → Outcome A
  ends : (end : End) (w : World) → Outcome A
  undefined : (at : ℕ) (why : Cause) (w : World) → Outcome A
  going : (at : ℕ) (w : World) → Outcome A

-- goes on with what was given, or with the exit; any other outcome stays
abbrev pub each_way : {A B : Type 0} → (A → World → Outcome B) → (Exit → World → Outcome B) → Outcome A → Outcome B
each_way on out (gives a w) = on a w
each_way on out (leaves x w) = out x w
each_way on out (ends e w) = ends e w
each_way on out (undefined l why w) = undefined l why w
each_way on out (going l w) = going l w

-- goes on with what was given; an exit stays
abbrev pub with : {A B : Type 0} → Outcome A → (A → World → Outcome B) → Outcome B
with u on = each_way on (λ x w. leaves x w) u

-- what a command that is done gives
abbrev pub Done : Type 0
Done = Unit {0}

abbrev pub done : World → Outcome Done
done w = gives tt w

-- Nothing is undefined, for a cause. From here on l is the position of what acts.
abbrev pub given : {A : Type 0} → ℕ → Cause → Option A → World → Outcome A
given l why None w = undefined l why w
given l why (Some a) w = gives a w

abbrev pub either : {A : Type 0} → Bool → (World → Outcome A) → (World → Outcome A) → World → Outcome A
either true then_so else_so w = then_so w
either false then_so else_so w = else_so w

-- takes a turn, if one is left, for the node at a position
abbrev pub turn_of : {A : Type 0} → ℕ → ℕ → World → (World → Outcome A) → Outcome A
turn_of l zero w go = going l w
turn_of l (suc n) w go = go (record w { turns = n })

abbrev pub turn : {A : Type 0} → ℕ → World → (World → Outcome A) → Outcome A
turn l w go = turn_of l w.turns w go

-- with another memory, and with a new object
abbrev pub remembering : Memory → World → World
remembering m w = record w { memory = m }

abbrev pub making : List Cell → World → World
making cells w = remembering (made cells w.memory) w

-- with a VEC among them
abbrev pub making_vec : List Cell → World → World
making_vec cells w = record (making cells w) { most_cells = max w.most_cells (cells_living (made cells w.memory)) }

-- with all objects from number o on dead: those that were made since memory had o of them
abbrev pub forgetting : ℕ → World → World
forgetting o w = remembering (dead_from o w.memory) w

-- They die whether something was given or it was left by an exit.
abbrev pub closing : {A : Type 0} → ℕ → Outcome A → Outcome A
closing o u = each_way (λ a w. gives a (forgetting o w)) (λ x w. leaves x (forgetting o w)) u

-- memory that was changed, if that was allowed
abbrev pub changes : ℕ → Cause → Option Memory → World → Outcome Done
changes l why None w = undefined l why w
changes l why (Some m) w = done (remembering m w)

abbrev pub writing : List ℕ → World → World
writing bytes w = record w { output = w.output ++ bytes }

-- one call more
abbrev pub calling : World → World
calling w = record w { calls = w.calls + 1; most_calls = max w.most_calls (w.calls + 1); most_cells = max w.most_cells (cells_living w.memory) }

-- back to so many
abbrev pub calls_back : ℕ → World → World
calls_back n w = record w { calls = n }
