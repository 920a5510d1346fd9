-- Where a text ends.
use Rattle.std.specs.Prelude.{◌≡◌, ◌⊎◌, ℕ, Bool, IsTrue}
use Rattle.bk_base.specs.declared.limit.TheConstants.{INPUT_BYTES}

-- The end of the text: the device reported it, or as many bytes were taken as one call reads.
abbrev pub AtEnd : Bool → ℕ → Type 0
AtEnd ended taken = IsTrue ended ⊎ (taken ≡ INPUT_BYTES)
