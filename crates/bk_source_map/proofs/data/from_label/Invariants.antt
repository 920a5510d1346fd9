use Rattle.std.proofs.Common.{◌≡◌, drop}
use Rattle.bk_source_map.specs.PlacedScheme.{from_label}
use Rattle.bk_source_map.proofs.data.from_label.Given as goal

abbrev pub invariant-loop-i : goal.invariant-loop-i
invariant-loop-i l = from_label l.label (drop l.i l.entrances) ≡ from_label l.label l.entrances
