use Rattle.bk_scope.proofs.Terms.{arith, length-drop}
use Rattle.bk_scope.proofs.TableSteps.{drop-one_less}
use Rattle.bk_scope.proofs.table.Table.leave.Goals as goal

pub loop-self-preserved : goal.loop-self-preserved
loop-self-preserved c = (
  simp (c.leave_innermost.ensures, length-drop) (omega arith),
  drop-one_less c.args.self.now c.loop-self.self c.leave_innermost.new.self c.loop-self.invariant.1 c.leave_innermost.ensures (omega arith),
)
