-- What is spare of the limits: a lower bound of the budgets, which costs little. A part of at most so many levels and nodes
-- leaves the section within the limits, whatever the part is and whatever symbol comes after it.
use Rattle.std.specs.Prelude.{ℕ, ◌+◌, ◌-◌, ◌≤◌, ◌<◌, cond, nat_le, length}
use Rattle.bk_base.specs.declared.limit.TheConstants.{TREE_DEPTH, TREE_NODES}
use Rattle.bk_tree.specs.Tree.{no_declarations}
use Rattle.bk_tree.specs.Parts.{size}
use Rattle.bk_grammar.specs.Machine.{Stack, in_section, at_variable, at_variable_end, at_starts, in_dests, in_values, in_value, in_vector}
use Rattle.bk_frames.specs.declared.frame.Size.{Size}
use Rattle.bk_frames.specs.declared.frame.Unfinished.{Unfinished}
use Rattle.bk_frames.specs.Sizes.{held_depth, held_nodes}
use Rattle.bk_frames.specs.Unfinished.{unfinished_on}

-- how many parts the top of the stack owes at most, of one node each
abbrev pub owes : Stack → ℕ
owes (at_variable xs st) = length xs
owes (at_variable_end xs st) = length xs
owes (at_starts xs is st) = length xs
owes (in_dests xs st) = size xs
owes (in_values xs ys st) = size xs
owes (in_value xs is st) = length xs
owes (in_vector l xs is st) = length xs
owes _ = 0

abbrev pub alone : Unfinished → Stack
alone x = unfinished_on x (in_section no_declarations)

-- what is spare above an unfinished construct, where so much is spare below it; nothing is known where no level or no node is
abbrev pub Leaves : Size → Unfinished → Size → Type 0
Leaves below x spare = 0 < spare.depth → 0 < spare.nodes → (spare.depth + 2 ≤ below.depth) × (held_depth (alone x) + 2 ≤ below.depth) × (spare.nodes + held_nodes (alone x) + owes (alone x) + 6 ≤ below.nodes)

-- what is spare in a section with declarations of this size
abbrev pub spare_of_section : Size → Size
spare_of_section held = record { depth = cond (nat_le held.depth TREE_DEPTH) TREE_DEPTH 0; nodes = TREE_NODES - held.nodes }

abbrev pub IsSmall : Size → Type 0
IsSmall s = (s.depth ≤ TREE_DEPTH) × (s.nodes ≤ TREE_NODES)
