-- Memory by the objects that live, and their cells.
use Rattle.std.specs.Prelude.{◌≡◌, ℕ, ◌+◌, ◌≤◌, ◌==◌, cond, List, [], ◌∷◌, length, map, take, drop}
use Rattle.std.specs.List.{range_with_len}
use Rattle.bk_meaning.specs.Memory.{Object, living, dead, Memory}
use Rattle.bk_objects.specs.declared.store.Life.{Life}
use Rattle.bk_objects.specs.declared.worth.Cell.{Cell}
use Rattle.bk_objects.specs.Views.{cell_in}

abbrev pub object_in : List Cell → Life → Object
object_in cells l = living (map cell_in (take l.len (drop l.start cells)))

-- the object of this number
abbrev pub found : List Cell → List Life → ℕ → Object
found cells [] o = dead
found cells (l ∷ ls) o = cond (l.number == o) (object_in cells l) (found cells ls o)

-- The first n objects that were made: each lives or is dead.
abbrev pub memory_of : List Cell → List Life → ℕ → Memory
memory_of cells ls n = map (found cells ls) (range_with_len 0 n)

-- The numbers grow, from n on, and are below m. The cells are one after another, from place s up to place e, with none between.
abbrev pub Laid : ℕ → ℕ → List Life → ℕ → ℕ → Type 0
Laid n s [] m e = (n ≤ m) × (s ≡ e)
Laid n s (l ∷ ls) m e = (n ≤ l.number) × (l.start ≡ s) × Laid (l.number + 1) (l.start + l.len) ls m e

-- the same with any bounds, and within these cells
abbrev pub Grow : List Life → Type 0
Grow ls = (m : ℕ) × (e : ℕ) × Laid 0 0 ls m e

abbrev pub Within : List Life → List Cell → Type 0
Within ls cells = (m : ℕ) × Laid 0 0 ls m (length cells)
