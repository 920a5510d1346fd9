use Rattle.bk_ocode.proofs.Terms.{◌≡◌, take, Appends, Keeps, Begins, spaced, case_words}
use Rattle.bk_ocode.proofs.printing.put_cases.Given as goal

abbrev pub invariant-loop-case : goal.invariant-loop-case
invariant-loop-case g l = record {
  taken : Appends (g.O.ByteOut.taken l.initial.out) (g.O.ByteOut.taken l.out) (spaced (case_words (take l.case-index l.cases)));
  passed : Begins (g.O.ByteOut.passed l.initial.out) (g.O.ByteOut.passed l.out);
  again : g.O.ByteOut.faults l.initial.out ≡ 1 → (g.O.ByteOut.faults l.out ≡ 1) × Keeps (g.O.ByteOut.taken l.initial.out) (g.O.ByteOut.taken l.out) × Keeps (g.O.ByteOut.passed l.initial.out) (g.O.ByteOut.passed l.out);
}
