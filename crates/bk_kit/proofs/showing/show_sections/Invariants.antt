use Rattle.bk_kit.proofs.ShowLemmas.{Showing, ◌-◌, ◌^◌}
use Rattle.bk_kit.proofs.showing.show_sections.Given as goal

abbrev pub invariant-loop-lexer : goal.invariant-loop-lexer
invariant-loop-lexer g l =
    Showing (g.L.Layout.writes l.initial.layout) (g.L.Layout.fails l.initial.layout) (g.C.ByteIn.left l.initial.source) (g.C.ByteIn.left l.source) l.taken l.line (g.C.ByteIn.faults l.source)
    l.initial.out l.out

abbrev pub decreases-loop-lexer : goal.decreases-loop-lexer
decreases-loop-lexer g l = 2 ^ 64 - l.taken
