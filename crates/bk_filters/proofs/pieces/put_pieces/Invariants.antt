use Rattle.bk_filters.proofs.Terms.{◌≡◌, take, Appends, Begins, joined}
use Rattle.bk_filters.proofs.pieces.put_pieces.Given as goal

abbrev pub invariant-loop-piece : goal.invariant-loop-piece
invariant-loop-piece g l = record {
  taken : Appends (g.O.ByteOut.taken l.initial.out) (g.O.ByteOut.taken l.out) (joined (take l.piece-index l.pieces));
  passed : Begins (g.O.ByteOut.passed l.initial.out) (g.O.ByteOut.passed l.out);
  same : g.O.ByteOut.faults l.out ≡ g.O.ByteOut.faults l.initial.out;
}
