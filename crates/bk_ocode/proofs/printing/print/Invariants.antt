use Rattle.bk_ocode.proofs.Terms.{◌≡◌, ◌<◌, take, Appends, Keeps, Begins, section_text}
use Rattle.bk_ocode.proofs.printing.print.Given as goal

abbrev pub invariant-loop-stmt : goal.invariant-loop-stmt
invariant-loop-stmt g l = record {
  taken : Appends (g.O.ByteOut.taken l.initial.out) (g.O.ByteOut.taken l.out) (section_text (take l.stmt-index l.stmt-items));
  passed : Begins (g.O.ByteOut.passed l.initial.out) (g.O.ByteOut.passed l.out);
  clear : 0 < l.stmt-index → g.O.ByteOut.faults l.out ≡ 0;
  again : g.O.ByteOut.faults l.initial.out ≡ 1 → (l.stmt-index ≡ 0) × (g.O.ByteOut.faults l.out ≡ 1) × Keeps (g.O.ByteOut.taken l.initial.out) (g.O.ByteOut.taken l.out) × Keeps (g.O.ByteOut.passed l.initial.out) (g.O.ByteOut.passed l.out);
}
