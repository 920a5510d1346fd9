-- Memory: objects, which live and die, each a list of cells. An object's number is its place in the list, and is never
-- given again. None means an act that is undefined.
use Rattle.std.specs.Prelude.{ℕ, zero, suc, ◌+◌, ◌%◌, Bool, cond, is_some, Option, Some, None, option_and_then, List, [], ◌∷◌, ◌++◌, length, slice_get, slice_set}
use Rattle.bk_base.specs.Word.{word_sum, byte_distance, byte_place}
use Rattle.bk_meaning.specs.Values.{Value, number, address, Cell, holds, value_in, byte_in, with_byte}

pub data Object : Type 0 where
  living : (cells : List Cell) → Object
  dead : Object

abbrev pub Memory : Type 0
Memory = List Object

-- how many cells the objects have that live
abbrev pub cells_living : Memory → ℕ
cells_living [] = 0
cells_living (living cells ∷ m) = length cells + cells_living m
cells_living (dead ∷ m) = cells_living m

-- the cells of a living object
abbrev pub cells_of : Option Object → Option (List Cell)
cells_of (Some (living cells)) = Some cells
cells_of _ = None

abbrev pub cells_at : Memory → ℕ → Option (List Cell)
cells_at m o = cells_of (slice_get m o)

abbrev pub lives : Memory → ℕ → Bool
lives m o = is_some (cells_at m o)

-- the cell at an address: an object that lives, and an offset inside it
abbrev pub cell_at : Memory → Value → Option Cell
cell_at m (address o i) = option_and_then (λ cells. slice_get cells i) (cells_at m o)
cell_at m _ = None

-- another cell there
abbrev pub replaced : Memory → ℕ → ℕ → Cell → Option (List Cell) → Option Memory
replaced m o i c None = None
replaced m o i c (Some cells) = cond (is_some (slice_get cells i)) (Some (slice_set m o (living (slice_set cells i c)))) None

abbrev pub with_cell : Memory → Value → Cell → Option Memory
with_cell m (address o i) c = replaced m o i c (cells_at m o)
with_cell m _ c = None

-- reading and writing a word
abbrev pub read : Memory → Value → Option Value
read m a = option_and_then value_in (cell_at m a)

abbrev pub write : Memory → Value → Value → Option Memory
write m a v = with_cell m a (holds v)

-- byte i of the words from an address on is in this cell
abbrev pub cell_of_byte : Value → ℕ → Value
cell_of_byte (address o k) i = address o (word_sum k (byte_distance i))
cell_of_byte v i = v

-- reading and writing a byte: of the words at an address, by its number
abbrev pub read_byte : Memory → Value → Value → Option ℕ
read_byte m a (number i) = option_and_then (λ c. byte_in c (byte_place i)) (cell_at m (cell_of_byte a i))
read_byte m a _ = None

abbrev pub write_byte : Memory → Value → Value → Value → Option Memory
write_byte m a (number i) (number x) =
    let there : Value = cell_of_byte a i in
    option_and_then (λ c. option_and_then (with_cell m there) (with_byte c (byte_place i) (x % 256))) (cell_at m there)
write_byte m a _ _ = None

-- a new object, whose number is the length of the memory before
abbrev pub made : List Cell → Memory → Memory
made cells m = m ++ living cells ∷ []

-- all objects from number o on are dead
abbrev pub dead_from : ℕ → Memory → Memory
dead_from o [] = []
dead_from zero (x ∷ m) = dead ∷ dead_from zero m
dead_from (suc o) (x ∷ m) = x ∷ dead_from o m
