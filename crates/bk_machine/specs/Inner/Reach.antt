-- How far items reach in the store, which no label changes.
use Rattle.std.specs.Prelude.{ℕ, ◌+◌, ◌%◌, ◌^◌, ◌==◌, nat_lt, List, fold, if◌then◌else◌}
use Rattle.bk_base.specs.Word.{word_of}
use Rattle.bk_machine.specs.declared.item.Operand.{Operand}
use Rattle.bk_machine.specs.declared.item.Operand.TheVariants.{Number, Local, Global, Label}
use Rattle.bk_machine.specs.declared.item.Item.{Item}
use Rattle.bk_machine.specs.declared.item.Item.TheVariants.{Instruction, SetLabel, Byte, Word, LabelWord, SetGlobal, Frame, End}
use Rattle.bk_machine.specs.declared.extent.Extent.{Extent}

-- the words of an instruction
abbrev pub address_size : ℕ → ℕ
address_size address = if nat_lt address (2 ^ 25) then 1 else 2

abbrev pub operand_size : Operand → ℕ
operand_size (Number n) = address_size (word_of n)
operand_size (Local n) = address_size (word_of n)
operand_size (Global n) = address_size (word_of n)
operand_size (Label l) = 1

-- the words of an item other than a byte
abbrev pub item_size : Item → ℕ
item_size (Instruction function indirect operand) = operand_size operand
item_size (Word w) = 1
item_size (LabelWord l) = 1
item_size (Byte b) = 0
item_size (SetLabel l) = 0
item_size (SetGlobal number l) = 0
item_size (Frame n) = 0
item_size End = 0

-- One more item: a byte goes into the last word while a run fills it, and else begins a word.
abbrev pub reached : Extent → Item → Extent
reached extent (Byte b) =
    if extent.filled == 0 then record { next = extent.next + 1; filled = 1 }
    else record { next = extent.next; filled = (extent.filled + 1) % 4 }
reached extent item = record { next = extent.next + item_size item; filled = 0 }

abbrev pub reached_all : ℕ → List Item → Extent
reached_all start items = fold reached (record { next = start; filled = 0 }) items
