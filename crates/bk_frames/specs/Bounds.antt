-- What a state of the reading machine leaves of the limits of a section.
use Rattle.std.specs.Prelude.{ℕ, ◌≤◌}
use Rattle.bk_base.specs.declared.limit.TheConstants.{TREE_DEPTH, TREE_NODES}
use Rattle.bk_base.specs.declared.source_fault.SourceKind.{SourceKind}
use Rattle.bk_base.specs.declared.source_fault.SourceKind.TheVariants.{NestedTooDeeply, TooManyNodes}
use Rattle.bk_grammar.specs.Machine.{State}
use Rattle.bk_frames.specs.Completing.{Completes}

-- so many levels and nodes are within these bounds
abbrev pub AtMost : ℕ → ℕ → ℕ → ℕ → Type 0
AtMost levels most d n = (d ≤ levels) × (n ≤ most)

abbrev pub LevelsAtMost : ℕ → ℕ → ℕ → Type 0
LevelsAtMost levels d n = d ≤ levels

-- nothing is asked of a section
abbrev pub Always : ℕ → ℕ → Type 0
Always d n = Unit {0}

-- a section within both limits goes on from here
abbrev pub Bounded : State → Type 0
Bounded x = Completes (AtMost TREE_DEPTH TREE_NODES) x

-- and one within that of depth
abbrev pub BoundedInDepth : State → Type 0
BoundedInDepth x = Completes (LevelsAtMost TREE_DEPTH) x

-- every section that goes on passes the limit of this kind, and not every one passes that which is reported before it
abbrev pub Passed : SourceKind → State → Type 0
Passed NestedTooDeeply x = BoundedInDepth x → ⊥
Passed TooManyNodes x = BoundedInDepth x × (Bounded x → ⊥)
Passed _ x = ⊥
