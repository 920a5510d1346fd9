-- A scope that runs: its commands, and what names mean around it.
use Rattle.std.specs.Prelude.{List}
use Rattle.bk_tree.specs.declared.tree.Command.{Command}
use Rattle.bk_meaning.specs.Environment.{Environment}

pub record Scoped : Type 0 where
  pub commands : List Command
  pub env : Environment
