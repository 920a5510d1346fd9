use Rattle.bk_ocode.proofs.Terms.{◌≡◌, take, Appends, Keeps, Begins, spaced, global_words}
use Rattle.bk_ocode.proofs.printing.put_entries.Given as goal

abbrev pub invariant-loop-entry : goal.invariant-loop-entry
invariant-loop-entry g l = record {
  taken : Appends (g.O.ByteOut.taken l.initial.out) (g.O.ByteOut.taken l.out) (spaced (global_words (take l.entry-index l.entries)));
  passed : Begins (g.O.ByteOut.passed l.initial.out) (g.O.ByteOut.passed l.out);
  again : g.O.ByteOut.faults l.initial.out ≡ 1 → (g.O.ByteOut.faults l.out ≡ 1) × Keeps (g.O.ByteOut.taken l.initial.out) (g.O.ByteOut.taken l.out) × Keeps (g.O.ByteOut.passed l.initial.out) (g.O.ByteOut.passed l.out);
}
