use Rattle.std.proofs.Common.{◌≡◌, ◌≢◌, ◌++◌, ◌≤◌, ℕ, List, All, length}
use Rattle.std.specs.Io.KnownBytes.{Consumes}
use Rattle.bk_lines.proofs.reading.read_line_end.Given as goal

abbrev pub invariant-loop-i : goal.invariant-loop-i
invariant-loop-i g l =
    (more : List ℕ) × Consumes (g.C.ByteIn.left l.initial.source) (g.C.ByteIn.left l.source) more × (length more ≤ l.i)
    × All (λ b. b ≢ 10) more × (l.line.items ≡ l.initial.line.items ++ more)
