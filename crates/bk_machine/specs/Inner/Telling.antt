-- What writing a text to a device says.
use Rattle.std.specs.Prelude.{◌≡◌, ℕ, List, ◌++◌, Option, Bool, Result, MatchResult}
use Rattle.std.specs.Io.KnownBytes.{Appends}
use Rattle.bk_base.specs.declared.device.Failed.{Failed}
use Rattle.bk_base.specs.Devices.{AppendsPart}
use Rattle.bk_machine.specs.Output.{Text}

-- the text was written, and the answer says whether it was whole; or the device failed on the way
abbrev pub PutsText : Option (List ℕ) → Option (List ℕ) → Text → Result Bool Failed → Type 0
PutsText old new text result = MatchResult result (λ whole. (whole ≡ text.whole) × Appends old new text.bytes) (λ _. AppendsPart old new text.bytes)

-- the bytes were written, or a beginning of them before the device failed
abbrev pub PutsBytes : Option (List ℕ) → Option (List ℕ) → List ℕ → Result (Unit {0}) Failed → Type 0
PutsBytes old new bytes result = MatchResult result (λ _. Appends old new bytes) (λ _. AppendsPart old new bytes)

-- of a text, the first bytes were written, and these are left
pub record Telling (old new : Option (List ℕ)) (all left : Text) : Type 0 where
  pub done : List ℕ
  pub bytes_are : all.bytes ≡ done ++ left.bytes
  pub whole_is : all.whole ≡ left.whole
  pub appends : Appends old new done
