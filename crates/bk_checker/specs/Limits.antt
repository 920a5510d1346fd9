-- The progress of a check, and its limits.
use Rattle.std.specs.Prelude.{◌⊎◌, ℕ, ◌+◌, ◌<◌, ◌≤◌, Option, Some, None, List, [], length}
use Rattle.bk_tree.specs.Tree as t
use Rattle.bk_tree.specs.Tree.{Declarations, Starts, starts_in}
use Rattle.bk_meaning.specs.Values.{Value, address}
use Rattle.bk_meaning.specs.Memory.{cells_living, read}
use Rattle.bk_meaning.specs.World.{World}
use Rattle.bk_meaning.specs.Environment.{Environment, constant_in, globals_object}
use Rattle.bk_meaning.specs.Lasting.{Program, program_of}
use Rattle.bk_meaning.specs.Parts.{nowhere}
use Rattle.bk_meaning.specs.Calls.{call}
use Rattle.bk_meaning.specs.Program.{means, first_world}
use Rattle.bk_meaning.specs.Growing.{InItsWorld}
use Rattle.bk_lasting.specs.Views.{env_in}
use Rattle.bk_check.specs.declared.frame.Next.{Next}
use Rattle.bk_check.specs.declared.frame.Next.TheVariants as n
use Rattle.bk_check.specs.declared.machine.Evaluator.{Evaluator}
use Rattle.bk_check.specs.Progress.{weight}

-- A turn was taken, or the weight of what is still to be done fell.
abbrev pub Progresses : Evaluator → Next → Evaluator → Next → Type 0
Progresses m next m' next' = (m'.turns ≤ m.turns) × (m.turns ≤ m'.turns → weight m'.frames.items next' < weight m.frames.items next)

-- the cells of a VEC whose last place has this number
abbrev pub cells_up_to : Option ℕ → ℕ
cells_up_to (Some last) = last + 1
cells_up_to None = 0

abbrev pub asked_first : Starts → Environment → ℕ
asked_first (t.vector l size is) env = cells_up_to (constant_in env size)
asked_first _ env = 0

-- how many cells a VEC has that comes next; none where no VEC does
abbrev pub asked : Next → ℕ
asked (n.Starts is here names l) = asked_first (starts_in is.now) (env_in here)
asked next = 0

-- More than 16777216 cells lived, or would live with a VEC that comes next, with a turn left for it.
abbrev pub IsTooLarge : Evaluator → Next → Type 0
IsTooLarge m next = (16777216 < m.most_cells) ⊎ ((0 < m.turns) × (0 < asked next) × (16777216 < cells_living m.store + asked next))

-- More than 4194304 parts wait for what is inside them, after more than 16384 calls were active at once; or too many cells live.
abbrev pub IsTooDeep : Evaluator → Next → Type 0
IsTooDeep m next = ((4194304 < length m.frames.items) × (16384 < m.most_calls)) ⊎ IsTooLarge m next

-- In a world more than 16384 calls were active at once, or more than 16777216 cells lived where a procedure was called or a VEC was made.
abbrev pub IsDeep : World → Type 0
IsDeep w = (16384 < w.most_calls) ⊎ (16777216 < w.most_cells)

-- so of the run of these sections
abbrev pub StartsDeep : Program → Option Value → World → ℕ → Type 0
StartsDeep p None w n = ⊥
StartsDeep p (Some f) w n = InItsWorld IsDeep (call p (means p n) nowhere f [] w)

abbrev pub GoesDeep : List Declarations → List ℕ → ℕ → Type 0
GoesDeep sections input n =
    let p : Program = program_of sections in
    let w : World = first_world p input n in
    StartsDeep p (read w.memory (address globals_object 1)) w n
