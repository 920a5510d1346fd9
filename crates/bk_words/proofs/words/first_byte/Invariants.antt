use Rattle.std.proofs.Common.{◌≡◌, ◌+◌, ◌-◌, ◌<◌, ℕ, List, IsTrue, length}
use Rattle.std.specs.Io.KnownBytes.{Consumes, Keeps}
use Rattle.bk_base.specs.declared.limit.TheConstants.{INPUT_BYTES}
use Rattle.bk_words.specs.Words.{AreBlank}
use Rattle.bk_words.proofs.words.first_byte.Given as goal

abbrev pub invariant-loop-byte : goal.invariant-loop-byte
invariant-loop-byte g l = record {
  taken : (blanks : List ℕ) × AreBlank blanks × Consumes (g.I.ByteIn.left l.initial.input) (g.I.ByteIn.left l.input) blanks × (l.taken ≡ l.initial.taken + length blanks);
  clear : 0 < l.taken → g.I.ByteIn.faults l.input ≡ 0;
  over : IsTrue (g.I.ByteIn.ended l.initial.input) → IsTrue (g.I.ByteIn.ended l.input) × (l.taken ≡ l.initial.taken);
  again : g.I.ByteIn.faults l.initial.input ≡ 1 → (g.I.ByteIn.faults l.input ≡ 1) × Keeps (g.I.ByteIn.left l.initial.input) (g.I.ByteIn.left l.input);
}

abbrev pub decreases-loop-byte : goal.decreases-loop-byte
decreases-loop-byte g l = INPUT_BYTES - l.taken
