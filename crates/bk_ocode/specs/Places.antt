-- Which statements may be where: procedures and data in any order, and the end after them.
use Rattle.std.specs.Prelude.{Bool, true, false}
use Rattle.bk_ocode.specs.declared.standing.Position.{Position}
use Rattle.bk_ocode.specs.declared.standing.Position.TheVariants as position
use Rattle.bk_ocode.specs.declared.standing.StmtPlace.{StmtPlace}
use Rattle.bk_ocode.specs.declared.standing.StmtPlace.TheVariants.{Outer, First, Body, Taker, Last, Datum}
use Rattle.bk_ocode.specs.declared.stmt.Stmt.{Stmt}
use Rattle.bk_ocode.specs.declared.stmt.Stmt.TheVariants.{Label, TakeResult, Entry, Save, ReturnItem, Return, EndProcedure, DataLabel, DataNumber, DataAddress, Globals}

-- the place that a statement may have
abbrev pub role : Stmt → StmtPlace
role (Entry label name) = Outer
role (DataLabel label) = Outer
role (Globals entries) = Outer
role (Save depth) = First
role (TakeResult depth) = Taker
role EndProcedure = Last
role (DataNumber value) = Datum
role (DataAddress label) = Datum
role _ = Body

abbrev pub may_stand : Position → StmtPlace → Bool
may_stand position.Outside Outer = true
may_stand position.InData Outer = true
may_stand position.InData Datum = true
may_stand position.Opened First = true
may_stand (position.AfterLabel label) Body = true
may_stand (position.AfterLabel label) Taker = true
may_stand position.AfterReturn Body = true
may_stand position.AfterReturn Last = true
may_stand position.Inside Body = true
may_stand _ _ = false

-- where the next statement is
abbrev pub position_after : Stmt → Position
position_after (Entry label name) = position.Opened
position_after (Label label) = position.AfterLabel label
position_after ReturnItem = position.AfterReturn
position_after Return = position.AfterReturn
position_after EndProcedure = position.Outside
position_after (DataLabel label) = position.InData
position_after (DataNumber value) = position.InData
position_after (DataAddress label) = position.InData
position_after (Globals entries) = position.Ended
position_after _ = position.Inside
