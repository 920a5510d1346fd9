-- The position of a symbol as one number: its line, and the number of bytes of its section's text up to and with its first. So the
-- number 1 is the first line, and no place.
use Rattle.std.specs.Prelude.{ℕ, ◌+◌, ◌-◌, ◌*◌, ◌/◌, ◌%◌, ◌==◌, cond, min, Option, Some, None, List, [], ◌∷◌, take}

-- none where it is not in that text
abbrev pub bytes_with : Option ℕ → ℕ
bytes_with None = 0
bytes_with (Some place) = min (place + 1) 4294967295

abbrev pub position : ℕ → Option ℕ → ℕ
position line place = bytes_with place * 4294967296 + line

abbrev pub line_in : ℕ → ℕ
line_in position = position % 4294967296

abbrev pub bytes_in : ℕ → ℕ
bytes_in position = position / 4294967296

-- The column after some bytes, from 1, where the first of them is at this column. A line feed ends its line. A column that has
-- reached 4294967295 stays there.
abbrev pub column_after : ℕ → List ℕ → ℕ
column_after column [] = column
column_after column (b ∷ bs) = column_after (cond (b == 10) 1 (min (column + 1) 4294967295)) bs

-- the column of a position in the text of its section, which begins at this column; none where it is not in that text
abbrev pub column_in : ℕ → List ℕ → ℕ → Option ℕ
column_in start text position = cond (bytes_in position == 0) None (Some (column_after start (take (bytes_in position - 1) text)))
