use Rattle.std.proofs.Common.{◌≡◌, ◌++◌, drop}
use Rattle.bk_source_map.specs.PlacedScheme.{entrances}
use Rattle.bk_source_map.proofs.data.entrances_of.Given as goal

abbrev pub invariant-loop-i : goal.invariant-loop-i
invariant-loop-i l = l.found.items ++ entrances (drop l.i l.stmts) (drop l.i l.places) ≡ entrances l.stmts l.places
