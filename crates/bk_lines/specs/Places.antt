-- The places of a source as a person is told them.
use Rattle.std.specs.Prelude.{◌≡◌, ◌≢◌, ℕ, ◌+◌, ◌≤◌, ◌==◌, cond, min, Option, All, length, List, [], ◌∷◌, ◌++◌, decimal}
use Rattle.std.specs.Io.KnownBytes.{Consumes}
use Rattle.bk_tree.specs.Position.{column_after}
use Rattle.bk_lines.specs.declared.places.Start.{Start}

-- The line after some bytes, where the first of them is on this line. A line that has reached 4294967295 stays there.
abbrev pub line_after : ℕ → List ℕ → ℕ
line_after line [] = line
line_after line (b ∷ bs) = line_after (cond (b == 10) (min (line + 1) 4294967295) line) bs

-- `LINE:COLUMN` of what comes after some bytes of a text that begins here
abbrev pub place_text : Start → List ℕ → List ℕ
place_text start before = decimal (line_after start.line before) ++ 58 ∷ decimal (column_after start.column before)

-- What was read of a line, from somewhere on: none of its bytes but the last is a line feed.
pub record LineEnd (old new : Option (List ℕ)) (more : List ℕ) : Type 0 where
  pub front : List ℕ
  pub last : List ℕ
  pub bytes : more ≡ front ++ last
  pub inside : All (λ b. b ≢ 10) front
  pub one : length last ≤ 1
  pub delivered : Consumes old new more

-- bytes were added
abbrev pub Extends : List ℕ → List ℕ → Type 0
Extends old new = (more : List ℕ) × (new ≡ old ++ more)
