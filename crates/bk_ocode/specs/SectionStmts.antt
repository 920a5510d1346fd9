-- What a section shows.
use Rattle.std.specs.Prelude.{List}
use Rattle.bk_ocode.specs.declared.stmt.Stmt.{Stmt}
use Rattle.bk_ocode.specs.declared.section.Ocode.{Ocode}

abbrev pub stmts_of : Ocode → List Stmt
stmts_of section = section.stmts.items
