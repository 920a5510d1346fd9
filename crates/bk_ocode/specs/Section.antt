-- Accepted sections.
use Rattle.std.specs.Prelude.{◌≡◌, ℕ, List, Some, None, slice_get, take}
use Rattle.bk_ocode.specs.StmtRange.{InRange}
use Rattle.bk_ocode.specs.Context.{context_of}
use Rattle.bk_ocode.specs.Faults.{stmt_fault}
use Rattle.bk_ocode.specs.declared.standing.Position.TheVariants.{Ended}
use Rattle.bk_ocode.specs.declared.stmt.Stmt.{Stmt}

-- Statements without a fault: each breaks no rule after those before it.
pub record AreFaultless (stmts : List Stmt) : Type 0 where
  pub in_range : (k : ℕ) (s : Stmt) → slice_get stmts k ≡ Some s → InRange s
  pub faultless : (k : ℕ) (s : Stmt) → slice_get stmts k ≡ Some s → stmt_fault (take k stmts) s ≡ None

-- What each section keeps: its statements are without a fault, and GLOBAL ended it.
pub record IsSection (stmts : List Stmt) : Type 0 where
  pub are_faultless : AreFaultless stmts
  pub ended : (context_of stmts).position ≡ Ended
