use Rattle.bk_kit.proofs.Terms.{◌-◌, ◌^◌, length, map, stmts_of, ocode, Front}
use Rattle.bk_kit.proofs.procedures.read_sections.Given as goal

abbrev pub invariant-loop-section : goal.invariant-loop-section
invariant-loop-section g l = Front ocode (map stmts_of l.list.items) (g.N.ByteIn.left l.initial.code) (g.N.ByteIn.left l.code) (g.N.ByteIn.ended l.code)

abbrev pub decreases-loop-section : goal.decreases-loop-section
decreases-loop-section g l = 2 ^ 64 - length l.list.items
