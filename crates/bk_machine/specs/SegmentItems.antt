-- What a segment shows.
use Rattle.std.specs.Prelude.{List}
use Rattle.bk_machine.specs.declared.item.Item.{Item}
use Rattle.bk_machine.specs.declared.segment.Intcode.{Intcode}

abbrev pub items_of : Intcode → List Item
items_of segment = segment.items.items
