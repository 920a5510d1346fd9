use Rattle.std.proofs.Common.{◌≡◌, drop}
use Rattle.bk_tree.specs.Position.{column_after}
use Rattle.bk_tree.proofs.position.column_after.Given as goal

abbrev pub invariant-loop-byte : goal.invariant-loop-byte
invariant-loop-byte l = column_after l.column (drop l.byte-index l.bytes) ≡ column_after l.start l.bytes
