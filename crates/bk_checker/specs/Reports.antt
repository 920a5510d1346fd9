-- Where what is reported of a check is.
use Rattle.std.specs.Prelude.{◌≡◌, ◌⊎◌, ℕ, ◌+◌, ◌<◌, List, [], ◌∷◌, ◌++◌, Contains, length, take}
use Rattle.bk_tree.specs.Position.{line_in, bytes_in}
use Rattle.bk_lines.specs.declared.places.Start.{Start}
use Rattle.bk_lines.specs.Places.{line_after, place_text}
use Rattle.bk_reports.specs.declared.notice.Notice.{Notice}
use Rattle.bk_checker.specs.declared.source.SourceText.{SourceText}

-- These are the bytes before a position in the text of a section, which begins here in its source, and the position is on that line.
pub record IsBefore (start : Start) (text : List ℕ) (position : ℕ) (before : List ℕ) : Type 0 where
  pub bytes : bytes_in position ≡ length before + 1
  pub within : length before < length text
  pub first : before ≡ take (length before) text
  pub on_line : line_after start.line before ≡ line_in position

-- a text was added that begins here
pub record IsAdded (start : Start) (bytes : List ℕ) (old new : List SourceText) : Type 0 where
  pub text : SourceText
  pub begins : text.start ≡ start
  pub has : text.bytes.items ≡ bytes
  pub last : new ≡ old ++ text ∷ []

-- `LINE:COLUMN` of a position in one of these texts
pub record IsPlaceIn (texts : List SourceText) (position : ℕ) (place : List ℕ) : Type 0 where
  pub text : SourceText
  pub is_text : Contains texts text
  pub before : List ℕ
  pub is_before : IsBefore text.start text.bytes.items position before
  pub is_place : place ≡ place_text text.start before

-- What is told of a place has the place of its position in one of these texts, or no place.
abbrev pub IsPlaced : List SourceText → Notice → Type 0
IsPlaced texts notice = (notice.place.items ≡ []) ⊎ IsPlaceIn texts notice.at notice.place.items
