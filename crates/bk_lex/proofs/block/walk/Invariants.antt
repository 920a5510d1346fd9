use Rattle.bk_lex.proofs.Terms.{ℕ, List, ◌≡◌, ◌+◌, ◌-◌, ◌≤◌, ◌++◌, length, take}
use Rattle.bk_lex.specs.Lexers.{Goes, parts, marks_of}
use Rattle.bk_lex.proofs.block.walk.Given as goal

abbrev pub invariant-loop-at : goal.invariant-loop-at
invariant-loop-at l = record {
  within : l.at ≤ length l.bytes;
  counts : l.at + l.state.bytes ≡ l.initial.state.bytes;
  order : l.pieces.piece ≤ l.before + l.at;
  goes : (text : List ℕ) (line : ℕ) → length text ≡ l.before → Goes (parts text line (marks_of l.initial.pieces)) l.initial.state → Goes (parts (text ++ take l.at l.bytes) line (marks_of l.pieces)) l.state;
}

abbrev pub decreases-loop-at : goal.decreases-loop-at
decreases-loop-at l = length l.bytes - l.at
