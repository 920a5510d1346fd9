-- The one text of a segment: its items, each on a line of its own.
use Rattle.std.specs.Prelude.{ℕ, List, [], ◌∷◌, ◌++◌}
use Rattle.bk_machine.specs.declared.item.Item.{Item}
use Rattle.bk_intcode.specs.ItemText.{item_text}

abbrev pub segment_text : List Item → List ℕ
segment_text [] = []
segment_text (item ∷ rest) = (item_text item ++ 10 ∷ []) ++ segment_text rest
