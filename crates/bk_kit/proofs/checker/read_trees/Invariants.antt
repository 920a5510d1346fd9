use Rattle.bk_kit.proofs.Terms.{◌≡◌, ◌-◌, ◌^◌, [], map, declarations_of, WithTrees, AllInSource}
use Rattle.bk_kit.proofs.HintLemmas.{Reached}
use Rattle.bk_kit.proofs.checker.read_trees.Given as goal

abbrev pub invariant-loop-lexer : goal.invariant-loop-lexer
invariant-loop-lexer g l =
    WithTrees (g.C.ByteIn.left l.initial.source) (g.C.ByteIn.left l.source) l.taken l.line (map declarations_of l.trees.items) (g.C.ByteIn.faults l.source)
    × Reached (g.C.ByteIn.left l.initial.source) (g.C.ByteIn.left l.source) l.start
    × (l.initial.texts.texts.items ≡ [] → AllInSource (g.C.ByteIn.left l.initial.source) (g.C.ByteIn.left l.source) l.texts.texts.items)

abbrev pub decreases-loop-lexer : goal.decreases-loop-lexer
decreases-loop-lexer g l = 2 ^ 64 - l.taken
