use Rattle.bk_filters.proofs.CompileLemmas.{Front, output, ◌-◌, ◌^◌}
use Rattle.bk_filters.proofs.compiler.put_sections.Given as goal

abbrev pub invariant-loop-lexer : goal.invariant-loop-lexer
invariant-loop-lexer g l =
    Front (g.C.ByteIn.left l.initial.source) (g.C.ByteIn.left l.source) l.taken l.line
    (output g.O.ByteOut l.initial.out) (output g.O.ByteOut l.out)

abbrev pub decreases-loop-lexer : goal.decreases-loop-lexer
decreases-loop-lexer g l = 2 ^ 64 - l.taken
