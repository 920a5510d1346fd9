-- A line on the error stream.
use Rattle.std.specs.Prelude.{◌≡◌, ℕ, List, Option, None, Some}
use Rattle.std.specs.Io.KnownBytes.{Appends}
use Rattle.bk_base.specs.Devices.{AppendsPart, Begins}
use Rattle.bk_base.specs.declared.device.ByteOut as writer

-- what an output device reports at a moment
pub record Output : Type 0 where
  pub taken : Option (List ℕ)
  pub passed : Option (List ℕ)
  pub faults : ℕ

abbrev pub output : {O : Type 0} → writer.Ghosts O → O → Output
output o out = record { taken = o.taken out; passed = o.passed out; faults = o.faults out }

-- The line was put, or a beginning of it, and nothing else. Unless the device failed it was put whole and passed on.
pub record ReportsLine (line : List ℕ) (old new : Output) : Type 0 where
  pub part : AppendsPart old.taken new.taken line
  pub passes : Begins old.passed new.passed
  pub whole : new.faults ≡ 0 → Appends old.taken new.taken line × (new.passed ≡ new.taken)

-- The line was reported if there is one, and else nothing was done.
abbrev pub Tells : Option (List ℕ) → Output → Output → Type 0
Tells None old new = new ≡ old
Tells (Some line) old new = ReportsLine line old new
