use Rattle.std.proofs.Common.{◌≡◌, drop}
use Rattle.bk_lines.specs.Places.{line_after}
use Rattle.bk_lines.proofs.places.line_after.Given as goal

abbrev pub invariant-loop-byte : goal.invariant-loop-byte
invariant-loop-byte l = line_after l.line (drop l.byte-index l.bytes) ≡ line_after l.fn.from l.bytes
