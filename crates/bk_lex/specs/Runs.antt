-- Runs of bytes that the machine takes alike.
use Rattle.std.specs.Prelude.{ℕ, Bool, ◌==◌, ◌||◌, not}
use Rattle.bk_lex.specs.Bytes.{is_feed}
use Rattle.bk_lex.specs.Pieces.{is_no_line_feed}
use Rattle.bk_lex.specs.declared.spans.Run.{Run}
use Rattle.bk_lex.specs.declared.spans.Run.TheVariants.{Spaces, Comment, Text}

abbrev pub is_in_run : Run → ℕ → Bool
is_in_run Spaces b = b == 32
is_in_run Comment b = is_no_line_feed b
is_in_run Text b = not (is_feed b || b == 34 || b == 42)
