-- What more turns change of a run: nothing, but that a run which was cut off goes on. What was written stays a beginning, and
-- the input is taken from its front.
use Rattle.std.specs.Prelude.{◌≡◌, ℕ, ◌≤◌, List, []}
use Rattle.bk_tree.specs.Tree.{Declarations}
use Rattle.bk_meaning.specs.World.{World, going}
use Rattle.bk_meaning.specs.Values.{Value}
use Rattle.bk_meaning.specs.Lasting.{Program}
use Rattle.bk_meaning.specs.Growing.{History, Grows}
use Rattle.bk_meaning.specs.Calls.{call}
use Rattle.bk_meaning.specs.Program.{means, Run, Ends, Going, Undefined, meaning}

abbrev pub with_turns : ℕ → World → World
with_turns n w = record w { turns = n }

-- what a run shows, and that it goes on from a history
abbrev pub shown : List ℕ → List ℕ → ℕ → History
shown bytes left calls = record { output = bytes; input = left; most_calls = calls; most_cells = 0 }

abbrev pub GoesOnTo : History → List ℕ → List ℕ → ℕ → Type 0
GoesOnTo old bytes left calls = (cells : ℕ) × Grows old (record (shown bytes left calls) { most_cells = cells })

abbrev pub RunGoesOn : History → Run → Type 0
RunGoesOn old (Ends bytes left calls e) = GoesOnTo old bytes left calls
RunGoesOn old (Going bytes left calls at) = GoesOnTo old bytes left calls
RunGoesOn old (Undefined bytes left calls at why) = GoesOnTo old bytes left calls

-- a run with fewer turns, and with more
pub data Continues : Run → Run → Type 0 where
  the_same : (r : Run) → Continues r r
  further : (bytes left : List ℕ) (calls at : ℕ) (r : Run) → RunGoesOn (shown bytes left calls) r → Continues (Going bytes left calls at) r

abbrev pub MoreTurns : Type 0
MoreTurns = (sections : List Declarations) (input : List ℕ) (n k : ℕ) → n ≤ k → Continues (meaning sections input n) (meaning sections input k)

-- the input that a run takes is a beginning of it
abbrev pub ReadsFromTheFront : Type 0
ReadsFromTheFront = (sections : List Declarations) (input : List ℕ) (n : ℕ) → RunGoesOn (shown [] input 0) (meaning sections input n)

-- A call is cut off only where no turn is left: the depth to which trees are gone into never runs out before the turns.
abbrev pub CutOnlyWithoutTurns : Type 0
CutOnlyWithoutTurns = (p : Program) (l : ℕ) (f : Value) (vs : List Value) (n at : ℕ) (w v : World) → w.turns ≤ n → call p (means p n) l f vs w ≡ going at v → v.turns ≡ 0
