use Rattle.std.proofs.Common.{◌≡◌, ◌++◌, drop}
use Rattle.bk_source_map.specs.PlacedScheme.{data_places}
use Rattle.bk_source_map.proofs.data.put_data.Given as goal

abbrev pub invariant-loop-i : goal.invariant-loop-i
invariant-loop-i l = l.out.items ++ data_places l.ahead l.left (drop l.i l.stmts) ≡ l.fn.out.items ++ data_places l.fn.entrances l.fn.words l.fn.stmts
