use Rattle.std.proofs.Common.{◌≡◌, ◌+◌, ◌-◌, false, ℕ, List, ◌∷◌, length}
use Rattle.std.specs.Io.KnownBytes.{Consumes}
use Rattle.bk_base.specs.declared.limit.TheConstants.{INPUT_BYTES}
use Rattle.bk_words.specs.Words.{AreInWord}
use Rattle.bk_words.specs.Gathering.{HoldsWord}
use Rattle.bk_words.proofs.words.rest_of_word.Given as goal

abbrev pub invariant-loop-byte : goal.invariant-loop-byte
invariant-loop-byte g l = record {
  taken : (rest : List ℕ) × AreInWord rest × HoldsWord l.held.word l.held.long (l.first ∷ rest)
      × Consumes (g.I.ByteIn.left l.initial.input) (g.I.ByteIn.left l.input) rest × (l.taken ≡ l.initial.taken + length rest);
  goes_on : l.held.last ≡ false;
  clear : g.I.ByteIn.faults l.input ≡ 0;
}

abbrev pub decreases-loop-byte : goal.decreases-loop-byte
decreases-loop-byte g l = INPUT_BYTES - l.taken
