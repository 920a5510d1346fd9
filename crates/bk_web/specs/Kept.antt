-- The bytes that an output keeps.
use Rattle.std.specs.Prelude.{◌≡◌, ℕ, false, List, [], Some, length, take, if◌then◌else◌}
use Rattle.bk_filters.specs.Telling.{Output}
use Rattle.bk_web.specs.declared.kept.Kept.{Kept}

abbrev pub kept_of : Kept → List ℕ
kept_of kept = kept.bytes.items

-- what it reports
abbrev pub report_of : Kept → Output
report_of kept = record { taken = Some kept.bytes.items; passed = Some kept.bytes.items; faults = if kept.failed then 1 else 0 }

-- It took nothing, and did not fail.
abbrev pub IsFresh : Kept → Type 0
IsFresh kept = (kept_of kept ≡ []) × (kept.failed ≡ false)

-- A room has the front of these bytes, as many as fit, and the host is answered how many they are.
abbrev pub IsFront : List ℕ → ℕ → List ℕ → Type 0
IsFront bytes count room = (count ≡ length bytes) × (take (length bytes) room ≡ take (length room) bytes)
