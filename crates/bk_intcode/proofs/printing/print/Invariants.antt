use Rattle.bk_intcode.proofs.Terms.{◌≡◌, ◌<◌, take, Appends, Keeps, Begins, segment_text}
use Rattle.bk_intcode.proofs.printing.print.Given as goal

abbrev pub invariant-loop-item : goal.invariant-loop-item
invariant-loop-item g l = record {
  taken : Appends (g.O.ByteOut.taken l.initial.out) (g.O.ByteOut.taken l.out) (segment_text (take l.item-index l.item-items));
  passed : Begins (g.O.ByteOut.passed l.initial.out) (g.O.ByteOut.passed l.out);
  again : g.O.ByteOut.faults l.initial.out ≡ 1 → (l.item-index ≡ 0) × (g.O.ByteOut.faults l.out ≡ 1) × Keeps (g.O.ByteOut.taken l.initial.out) (g.O.ByteOut.taken l.out) × Keeps (g.O.ByteOut.passed l.initial.out) (g.O.ByteOut.passed l.out);
  clear : 0 < l.item-index → g.O.ByteOut.faults l.out ≡ 0;
}
