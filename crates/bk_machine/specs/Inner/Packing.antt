-- Words that may grow by a byte.
use Rattle.std.specs.Prelude.{ℕ, ◌-◌, ◌*◌, ◌^◌, ◌<◌, List, length, slice_index}

-- As many bytes of the last word are filled, and its others are 0.
pub record IsFilled (words : List ℕ) (filled : ℕ) : Type 0 where
  pub within : filled < 4
  pub last : 0 < filled → 0 < length words
  pub small : 0 < filled → slice_index words (length words - 1) < 2 ^ (8 * filled)
