-- Numbers of sections of OCODE, and the sections of parts.
use Rattle.std.specs.Prelude.{ℕ, ◌+◌, max, List, [], ◌∷◌, map}
use Rattle.bk_base.specs.declared.limit.TheConstants.{FRAME_WORDS_LEAST}
use Rattle.bk_ocode.specs.Depth.{largest_depth}
use Rattle.bk_ocode.specs.SectionData.{text_size}
use Rattle.bk_ocode.specs.declared.stmt.Stmt.{Stmt}
use Rattle.bk_gen.specs.BackEnd.{Part}

-- the words of their texts
abbrev pub text_of : List (List Stmt) → ℕ
text_of [] = 0
text_of (stmts ∷ sections) = text_size stmts + text_of sections

-- the largest depth in them
abbrev pub depth_of : List (List Stmt) → ℕ
depth_of [] = 0
depth_of (stmts ∷ sections) = max (largest_depth stmts) (depth_of sections)

-- the same, and 16 where all are less
abbrev pub frame_of : List (List Stmt) → ℕ
frame_of [] = FRAME_WORDS_LEAST
frame_of (stmts ∷ sections) = max (largest_depth stmts) (frame_of sections)

abbrev pub stmts_of_parts : List Part → List (List Stmt)
stmts_of_parts parts = map (λ (p : Part). p.stmts) parts
