-- Placement and packing: where the words of segments are in the store, and what the store holds before a run.
use Rattle.std.specs.Prelude.{ℕ, suc, ◌+◌, ◌-◌, ◌*◌, ◌%◌, ◌^◌, ◌==◌, Bool, true, false, ◌||◌, List, [], ◌∷◌, ◌++◌, length, take, fold, max, replicate, slice_index, slice_set, if◌then◌else◌}
use Rattle.bk_base.specs.Word.{word_of}
use Rattle.bk_machine.specs.declared.item.Function.TheVariants.{Load, Call, Operate}
use Rattle.bk_machine.specs.declared.item.Item.{Item}
use Rattle.bk_machine.specs.declared.item.Item.TheVariants.{Instruction, SetLabel, Byte, Word, LabelWord, SetGlobal, Frame, End}
use Rattle.bk_machine.specs.Segment.{item_sets, frame_of}
use Rattle.bk_machine.specs.Instructions.{fields, instruction_words}

-- Words that grow by items: the words so far, and how many bytes the last of them holds of a run that may go on, 0 where
-- none may.
pub record Growth : Type 0 where
  pub words : List ℕ
  pub filled : ℕ

-- the words of an item other than a byte
abbrev pub item_words : (ℕ → ℕ) → Item → List ℕ
item_words labels (Instruction function indirect operand) = instruction_words labels function indirect operand
item_words labels (Word w) = word_of w ∷ []
item_words labels (LabelWord l) = labels l ∷ []
item_words labels (Byte b) = []
item_words labels (SetLabel l) = []
item_words labels (SetGlobal number l) = []
item_words labels (Frame n) = []
item_words labels End = []

-- A byte goes into the word of the bytes before it while that has a free place, and else begins a word. Any other item, a
-- label too, ends a run of bytes.
abbrev pub grown : (ℕ → ℕ) → Growth → Item → Growth
grown labels g (Byte b) =
    if g.filled == 0 then record { words = g.words ++ b ∷ []; filled = 1 }
    else record {
      words = slice_set g.words (length g.words - 1) (slice_index g.words (length g.words - 1) + 2 ^ (8 * g.filled) * b);
      filled = (g.filled + 1) % 4;
    }
grown labels g item = record { words = g.words ++ item_words labels item; filled = 0 }

abbrev pub growth : (ℕ → ℕ) → List Item → Growth
growth labels items = fold (grown labels) (record { words = []; filled = 0 }) items

-- the words of a segment, given the labels' numbers
abbrev pub segment_words : (ℕ → ℕ) → List Item → List ℕ
segment_words labels items = (growth labels items).words

-- how many words items take, which no label changes
abbrev pub segment_size : List Item → ℕ
segment_size items = length (segment_words (λ label. 0) items)

-- The number of a label: where the segment starts, and the sizes of the items before the label is set. A label that is not
-- set, which no segment uses, has the place after the segment.
abbrev pub label_place : ℕ → List Item → ℕ
label_place label [] = 0
label_place label (item ∷ rest) = if item_sets label item then 0 else suc (label_place label rest)

abbrev pub label_number : ℕ → List Item → ℕ → ℕ
label_number start items label = start + segment_size (take (label_place label items) items)

-- What the store holds below the segments.
abbrev pub GLOBALS : ℕ
GLOBALS = 16

abbrev pub LIBRARY : ℕ
LIBRARY = 1016

abbrev pub SEGMENTS : ℕ
SEGMENTS = 1034

abbrev pub operation_word : ℕ → ℕ
operation_word operation = fields Operate false false false false + operation

-- words 0 to 15: the start, `LIG1 K0 X22` from word 1 on, and WRITEF, `X33 X4`, at words 4 and 5
abbrev pub start_words : List ℕ
start_words =
    0 ∷ (fields Load true false true false + 1) ∷ fields Call false false false false ∷ operation_word 22
    ∷ operation_word 33 ∷ operation_word 4 ∷ replicate 10 0

-- words 1016 to 1033: the library's routines for the globals 2 to 10
abbrev pub routine_words : ℕ → List ℕ
routine_words global = operation_word (global + 22) ∷ operation_word 4 ∷ []

abbrev pub library_words : List ℕ
library_words =
    routine_words 2 ++ routine_words 3 ++ routine_words 4 ++ routine_words 5 ++ routine_words 6
    ++ routine_words 7 ++ routine_words 8 ++ routine_words 9 ++ routine_words 10

-- the words of all segments, one after another
abbrev pub all_words : ℕ → List (List Item) → List ℕ
all_words start [] = []
all_words start (items ∷ rest) = segment_words (label_number start items) items ++ all_words (start + segment_size items) rest

-- the first word of the stack
abbrev pub stack_start : ℕ → List (List Item) → ℕ
stack_start start [] = start
stack_start start (items ∷ rest) = stack_start (start + segment_size items) rest

-- A global and what it holds.
pub record Setting : Type 0 where
  pub global : ℕ
  pub value : ℕ

abbrev pub item_settings : (ℕ → ℕ) → Item → List Setting
item_settings labels (SetGlobal number l) = record { global = number; value = labels l } ∷ []
item_settings labels item = []

abbrev pub segment_settings : (ℕ → ℕ) → List Item → List Setting
segment_settings labels [] = []
segment_settings labels (item ∷ rest) = item_settings labels item ++ segment_settings labels rest

-- The settings of globals in order: the library's first, then those of the segments.
abbrev pub library_settings : List Setting
library_settings =
    record { global = 2; value = LIBRARY } ∷ record { global = 3; value = LIBRARY + 2 } ∷ record { global = 4; value = LIBRARY + 4 }
    ∷ record { global = 5; value = LIBRARY + 6 } ∷ record { global = 6; value = LIBRARY + 8 } ∷ record { global = 7; value = LIBRARY + 10 }
    ∷ record { global = 8; value = LIBRARY + 12 } ∷ record { global = 9; value = LIBRARY + 14 } ∷ record { global = 10; value = LIBRARY + 16 }
    ∷ record { global = 11; value = 4 } ∷ []

abbrev pub all_settings : ℕ → List (List Item) → List Setting
all_settings start [] = []
all_settings start (items ∷ rest) = segment_settings (label_number start items) items ++ all_settings (start + segment_size items) rest

-- A later setting of a global replaces an earlier one.
abbrev pub with_setting : List ℕ → Setting → List ℕ
with_setting store setting = slice_set store (GLOBALS + setting.global) setting.value

-- the store of so many words before a run
abbrev pub unset_store : ℕ → List (List Item) → List ℕ
unset_store words segments =
    start_words ++ replicate 1000 0 ++ library_words ++ all_words SEGMENTS segments ++ replicate (words - stack_start SEGMENTS segments) 0

abbrev pub loaded_store : ℕ → List (List Item) → List ℕ
loaded_store words segments =
    fold with_setting (unset_store words segments) (library_settings ++ all_settings SEGMENTS segments)

-- some segment sets global 1
abbrev pub item_starts : Item → Bool
item_starts (SetGlobal number l) = number == 1
item_starts item = false

abbrev pub starts : List Item → Bool
starts [] = false
starts (item ∷ rest) = item_starts item || starts rest

abbrev pub any_starts : List (List Item) → Bool
any_starts [] = false
any_starts (items ∷ rest) = starts items || any_starts rest

-- the greatest frame that the segments give
abbrev pub greatest_frame : List (List Item) → ℕ
greatest_frame [] = 0
greatest_frame (items ∷ rest) = max (frame_of items) (greatest_frame rest)
