-- The report of what segments need.
use Rattle.std.specs.Prelude.{◌≡◌, ℕ, min, max, List, ◌++◌, Option, Bool, Result, Ok, Err, codes, decimal}
use Rattle.std.specs.Io.KnownBytes.{Appends}
use Rattle.bk_base.specs.Devices.{AppendsPart}
use Rattle.bk_base.specs.declared.limit.TheConstants.{STORE_LEAST, STORE_MOST}
use Rattle.bk_machine.specs.declared.item.Item.{Item}
use Rattle.bk_machine.specs.declared.machine.Sizes.{Sizes}
use Rattle.bk_machine.specs.Placement.{SEGMENTS, stack_start, greatest_frame}
use Rattle.bk_filters.specs.declared.kit_fault.KitFault.{KitFault}
use Rattle.bk_filters.specs.declared.kit_fault.KitFault.TheVariants.{Write}
use Rattle.bk_filters.specs.FaultLine.{line_of}
use Rattle.bk_filters.specs.Telling.{Output}
use Rattle.bk_filters.specs.Interpreting.{Loadable, CodeRefused}

abbrev pub sizes_line : Sizes → List ℕ
sizes_line sizes = line_of (codes "image " ++ decimal sizes.image ++ codes ", frame " ++ decimal sizes.frame)

abbrev pub sizes_of_segments : List (List Item) → Sizes
sizes_of_segments all = record { image = stack_start SEGMENTS all; frame = greatest_frame all }

-- The segments of the text could be loaded, and this is what they need.
pub record Needs (sizes : Sizes) (words : ℕ) (old new : Option (List ℕ)) (ended : Bool) : Type 0 where
  pub all : List (List Item)
  pub loadable : Loadable all words old new ended
  pub are : sizes ≡ sizes_of_segments all

-- How many words the store has for which so many were asked: the nearest number within the limits.
abbrev pub store_words : ℕ → ℕ
store_words words = min (max words STORE_LEAST) STORE_MOST

-- What a report comes to: the line is written and passed on, or in part where the output failed, or the text is refused
-- and nothing is written.
abbrev pub Reports : {T : Type 0} → Result T KitFault → ℕ → Option (List ℕ) → Option (List ℕ) → Bool → Output → Output → Type 0
Reports (Ok done) words old new ended before after =
    (sizes : Sizes) × Needs sizes words old new ended × Appends before.taken after.taken (sizes_line sizes) × (after.passed ≡ after.taken)
Reports (Err Write) words old new ended before after =
    (sizes : Sizes) × Needs sizes words old new ended × AppendsPart before.taken after.taken (sizes_line sizes) × (after.faults ≡ 1)
Reports (Err fault) words old new ended before after = CodeRefused fault words old new ended × (after ≡ before)
