-- Texts of INTCODE: segments, one after another.
use Rattle.std.specs.Prelude.{List, map}
use Rattle.bk_base.specs.declared.intcode_fault.IntcodeKind.{IntcodeKind}
use Rattle.bk_machine.specs.declared.item.Item.{Item}
use Rattle.bk_machine.specs.Segment.{IsSegment}
use Rattle.bk_intcode.specs.ItemText.{item_text}
use Rattle.bk_intcode.specs.FirstSaying.{Says, fault}
use Rattle.bk_filters.specs.Texts.{Format}

-- segments as parts of a text
abbrev pub intcode : Format (List Item) IntcodeKind
intcode = record { Whole = IsSegment; words = λ items. map item_text items; Refuses = λ item kind words. Says (fault item kind) words }
