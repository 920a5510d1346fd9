use Rattle.bk_gen.proofs.PartsPlaced.{Loaded}
use Rattle.bk_gen.proofs.SoundParts.{well_placed}
use Rattle.bk_gen.proofs.laws.parts_are_well_placed.Goals as goal

pub returns : goal.returns
returns c parts words room within =
    let loaded : Loaded = record { laws = c.run_laws.ensures; short = c.laws.ensures.short; parts = parts; words = words; room = room; within = within } in
    well_placed loaded
