use Rattle.bk_ocode.proofs.Terms.{◌≡◌, take, Appends, Keeps, Begins, spaced, byte_words}
use Rattle.bk_ocode.proofs.printing.put_bytes.Given as goal

abbrev pub invariant-loop-byte : goal.invariant-loop-byte
invariant-loop-byte g l = record {
  taken : Appends (g.O.ByteOut.taken l.initial.out) (g.O.ByteOut.taken l.out) (spaced (byte_words (take l.byte-index l.bytes)));
  passed : Begins (g.O.ByteOut.passed l.initial.out) (g.O.ByteOut.passed l.out);
  again : g.O.ByteOut.faults l.initial.out ≡ 1 → (g.O.ByteOut.faults l.out ≡ 1) × Keeps (g.O.ByteOut.taken l.initial.out) (g.O.ByteOut.taken l.out) × Keeps (g.O.ByteOut.passed l.initial.out) (g.O.ByteOut.passed l.out);
}
