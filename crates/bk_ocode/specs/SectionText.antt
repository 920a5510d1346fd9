-- The one text of a section: its statements, each on a line of its own.
use Rattle.std.specs.Prelude.{ℕ, List, [], ◌∷◌, ◌++◌}
use Rattle.bk_ocode.specs.Lists.{joined}
use Rattle.bk_ocode.specs.StmtText.{stmt_words, stmt_text}
use Rattle.bk_ocode.specs.declared.stmt.Stmt.{Stmt}

abbrev pub section_text : List Stmt → List ℕ
section_text stmts = joined (λ s. stmt_text s ++ 10 ∷ []) stmts

-- the words of a section
abbrev pub section_words : List Stmt → List (List ℕ)
section_words stmts = joined stmt_words stmts
