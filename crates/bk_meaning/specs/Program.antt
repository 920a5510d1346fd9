-- What a program means: its sections, the input, and how many turns there are.
use Rattle.std.specs.Prelude.{ℕ, zero, suc, Option, Some, None, List, []}
use Rattle.bk_tree.specs.Tree as t
use Rattle.bk_tree.specs.Tree.{Expression, Command, Declarations}
use Rattle.bk_tree.specs.Parts.{at_command}
use Rattle.bk_meaning.specs.Values.{Value, address}
use Rattle.bk_meaning.specs.Causes.{Cause, no_place}
use Rattle.bk_meaning.specs.Memory.{read}
use Rattle.bk_meaning.specs.World.{World, End, status, no_start, Outcome, gives, leaves, ends, undefined, going, Done, done, turn}
use Rattle.bk_meaning.specs.Environment.{globals_object}
use Rattle.bk_meaning.specs.Lasting.{Program, program_of, first_memory}
use Rattle.bk_meaning.specs.Parts.{Meanings, acts_at, nowhere}
use Rattle.bk_meaning.specs.Scopes.{scope_of}
use Rattle.bk_meaning.specs.Calls.{call}
use Rattle.bk_meaning.specs.Expressions.{value_of, truth_of, target_of}
use Rattle.bk_meaning.specs.Loops.{rounds_of, for_rounds_of}
use Rattle.bk_meaning.specs.Commands.{act_of}

-- a command takes a turn, unless it is empty
abbrev pub turn_for : Command → World → (World → Outcome Done) → Outcome Done
turn_for t.empty w go = go w
turn_for c w go = turn (at_command c) w go

-- Each node takes a turn, and has its meaning from that of the nodes inside it.
abbrev pub means_with : Program → Meanings → Meanings
means_with p m = record {
  value = λ e env w. turn (acts_at e) w (λ w. value_of p m e env w);
  truth = λ e env w. turn (acts_at e) w (λ w. truth_of p m e env w);
  target = λ e env w. turn (acts_at e) w (λ w. target_of m e env w);
  act = λ c mode env w. turn_for c w (λ w. act_of p m c mode env w);
  rounds = λ c mode env w. rounds_of m c mode env w;
  for_rounds = λ l c object limit step env w. for_rounds_of m l c object limit step env w;
  scope = λ cs mode env w. scope_of m cs mode env w;
}

-- where no turn is left
abbrev pub no_turn_for : Command → World → Outcome Done
no_turn_for t.empty w = done w
no_turn_for c w = going (at_command c) w

abbrev pub no_turns : Meanings
no_turns = record {
  value = λ e env w. going (acts_at e) w;
  truth = λ e env w. going (acts_at e) w;
  target = λ e env w. going (acts_at e) w;
  act = λ c mode env w. no_turn_for c w;
  rounds = λ c mode env w. going (at_command c) w;
  for_rounds = λ l c object limit step env w. going l w;
  scope = λ cs mode env w. going nowhere w;
}

-- the meaning of all nodes in worlds with at most n turns left
abbrev pub means : Program → ℕ → Meanings
means p zero = no_turns
means p (suc n) = means_with p (means p n)

-- How the run of a program ends: with the bytes that it wrote, those of the input that it left, and the most calls that were
-- active at once. It may go on past all turns, or do what is undefined, for a cause: at a position, where no turn was left, or the act is.
pub data Run : Type 0 where
  Ends : (bytes left : List ℕ) (calls : ℕ) (end : End) → Run
  Going : (bytes left : List ℕ) (calls at : ℕ) → Run
  Undefined : (bytes left : List ℕ) (calls at : ℕ) (why : Cause) → Run

-- a return from START ends with 0
abbrev pub run_of : Outcome Value → Run
run_of (gives v w) = Ends w.output w.input w.most_calls (status 0)
run_of (leaves x w) = Undefined w.output w.input w.most_calls nowhere no_place
run_of (ends e w) = Ends w.output w.input w.most_calls e
run_of (undefined l why w) = Undefined w.output w.input w.most_calls l why
run_of (going l w) = Going w.output w.input w.most_calls l

-- global 1 is called
abbrev pub first_world : Program → List ℕ → ℕ → World
first_world p input n = record { memory = first_memory p; input = input; output = []; calls = 0; most_calls = 0; most_cells = 0; turns = n }

abbrev pub started : Program → Option Value → World → ℕ → Run
started p None w n = Ends [] w.input 0 no_start
started p (Some f) w n = run_of (call p (means p n) nowhere f [] w)

abbrev pub meaning : List Declarations → List ℕ → ℕ → Run
meaning sections input n =
    let p : Program = program_of sections in
    let w : World = first_world p input n in
    started p (read w.memory (address globals_object 1)) w n
