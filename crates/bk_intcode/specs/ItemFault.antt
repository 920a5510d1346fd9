-- The fault of an item after others.
use Rattle.std.specs.Prelude.{Bool, List, [], ◌∷◌, ◌++◌, Option, length, nat_lt, slice_get, if◌then◌else◌}
use Rattle.std.specs.List.{list_all}
use Rattle.bk_base.specs.declared.limit.TheConstants.{INTCODE_ITEMS}
use Rattle.bk_base.specs.declared.intcode_fault.IntcodeKind.{IntcodeKind}
use Rattle.bk_base.specs.declared.intcode_fault.IntcodeKind.TheVariants.{LabelNotSet, LabelSetTwice, TooLong, FrameGivenTwice}
use Rattle.bk_machine.specs.Segment.{sets, use_is_set, is_frame, gives_frame}
use Rattle.bk_machine.specs.declared.item.Item.{Item}
use Rattle.bk_machine.specs.declared.item.Item.TheVariants.{Instruction, SetLabel, Byte, Word, LabelWord, SetGlobal, Frame, End}

-- each label that is used is set
abbrev pub all_set : List Item → Bool
all_set items = list_all (use_is_set items) items

-- the faults that an item may have after others, each by itself
abbrev pub label_not_set : List Item → Item → List IntcodeKind
label_not_set before End = if all_set before then [] else LabelNotSet ∷ []
label_not_set before (Instruction function indirect operand) = []
label_not_set before (SetLabel l) = []
label_not_set before (Byte b) = []
label_not_set before (Word w) = []
label_not_set before (LabelWord l) = []
label_not_set before (SetGlobal number l) = []
label_not_set before (Frame n) = []

abbrev pub label_set_twice : List Item → Item → List IntcodeKind
label_set_twice before (SetLabel l) = if sets l before then LabelSetTwice ∷ [] else []
label_set_twice before (Instruction function indirect operand) = []
label_set_twice before (Byte b) = []
label_set_twice before (Word w) = []
label_set_twice before (LabelWord l) = []
label_set_twice before (SetGlobal number l) = []
label_set_twice before (Frame n) = []
label_set_twice before End = []

abbrev pub too_long : List Item → List IntcodeKind
too_long before = if nat_lt (length before) INTCODE_ITEMS then [] else TooLong ∷ []

abbrev pub frame_given_twice : List Item → Item → List IntcodeKind
frame_given_twice before item = if is_frame item then (if gives_frame before then FrameGivenTwice ∷ [] else []) else []

-- the faults of an item after others, in the order of their numbers
abbrev pub item_faults : List Item → Item → List IntcodeKind
item_faults before item =
    label_not_set before item ++ (label_set_twice before item ++ (too_long before ++ frame_given_twice before item))

-- the fault that is reported: that with the lowest number
abbrev pub item_fault : List Item → Item → Option IntcodeKind
item_fault before item = slice_get (item_faults before item) 0
