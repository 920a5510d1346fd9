-- The command that takes no turn.
use Rattle.std.specs.Prelude.{Bool, true, false}
use Rattle.bk_tree.specs.Tree as t
use Rattle.bk_tree.specs.Tree.{Command}

-- the empty command, which takes no turn
abbrev pub takes_no_turn : Command → Bool
takes_no_turn t.empty = true
takes_no_turn _ = false
