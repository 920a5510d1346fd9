-- What a table says of labels: of one that it lacks, that nothing is known.
use Rattle.std.specs.Prelude.{ℕ, Option, Some, None, slice_get}
use Rattle.std.specs.BTreeMap.{get}
use Rattle.std.specs.Ordering.{nat_cmp}
use Rattle.bk_ocode.specs.Context.{fresh}
use Rattle.bk_ocode.specs.declared.standing.LabelUse.{LabelUse}
use Rattle.bk_ocode.specs.declared.label_uses.LabelUses.{LabelUses}

abbrev pub use_or : LabelUse → Option LabelUse → LabelUse
use_or other (Some known) = known
use_or other None = other

-- the low labels in a list, the others in a map
unfoldable pub uses_of : LabelUses → ℕ → LabelUse
uses_of uses label = use_or (use_or fresh (get nat_cmp uses.high label)) (slice_get uses.low.items label)
