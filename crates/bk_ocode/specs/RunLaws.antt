-- Laws of runs of OCODE, for the layers above.
use Rattle.std.specs.Prelude.{◌≡◌, ℕ, suc, Some, take, drop, slice_get}
use Rattle.bk_ocode.specs.Depth.{depth_after}
use Rattle.bk_ocode.specs.Section.{AreFaultless}
use Rattle.bk_ocode.specs.OcodeState.{Placed, Inside, Following, State}
use Rattle.bk_ocode.specs.OcodeStep.{step}
use Rattle.bk_ocode.specs.OcodeRun.{Program, program_step}
use Rattle.bk_ocode.specs.declared.stmt.Stmt.TheVariants.{Label}

-- After a LAB a program goes on with what follows that LAB, whatever numbers the labels have.
abbrev pub GoesOnAfterLabel : Type 0
GoesOnAfterLabel = (program : Program) (s : State) (own : Placed) (i label : ℕ) → AreFaultless own.stmts → slice_get own.stmts i ≡ Some (Label label) →
    s.control ≡ Following own label →
    program_step program s ≡ step program.callables (record s { control = Inside own (depth_after 0 (take i own.stmts)) (drop (suc i) own.stmts) })
