-- The tag of a section bracket: its bytes after the bracket, in upper case; empty if there are none.
use Rattle.std.specs.Prelude.{ℕ, List, [], ◌∷◌}
use Rattle.bk_lex.specs.Values.{upper_name}

abbrev pub tag_of : List ℕ → List ℕ
tag_of (dollar ∷ (bracket ∷ tag)) = upper_name tag
tag_of _ = []
