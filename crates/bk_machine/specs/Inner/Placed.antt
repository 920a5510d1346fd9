-- A segment put after the words of a store, with its globals set.
use Rattle.std.specs.Prelude.{ℕ, List, ◌++◌, fold, length}
use Rattle.bk_machine.specs.declared.item.Item.{Item}
use Rattle.bk_machine.specs.Placement.{label_number, segment_words, segment_settings, with_setting}

abbrev pub placed : List ℕ → List Item → List ℕ
placed store items =
    fold with_setting (store ++ segment_words (label_number (length store) items) items) (segment_settings (label_number (length store) items) items)
