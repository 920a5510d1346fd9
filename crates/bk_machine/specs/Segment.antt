-- Segments: which lists of items are whole.
use Rattle.std.specs.Prelude.{◌≡◌, ℕ, suc, ◌-◌, ◌<◌, ◌≤◌, ◌==◌, Bool, true, false, IsTrue, ◌||◌, List, [], ◌∷◌, Some, length, slice_get, FitsSigned, ⊤}
use Rattle.std.specs.Int.{w32}
use Rattle.bk_base.specs.declared.limit.TheConstants.{GLOBAL_NUMBER, FRAME_WORDS, FRAME_WORDS_LEAST, INTCODE_ITEMS, INTCODE_LABEL}
use Rattle.bk_machine.specs.declared.item.Operand.{Operand}
use Rattle.bk_machine.specs.declared.item.Operand.TheVariants.{Number, Local, Global, Label}
use Rattle.bk_machine.specs.declared.item.Item.{Item}
use Rattle.bk_machine.specs.declared.item.Item.TheVariants.{Instruction, SetLabel, Byte, Word, LabelWord, SetGlobal, Frame, End}

-- the item uses the label
abbrev pub operand_uses : ℕ → Operand → Bool
operand_uses label (Label l) = l == label
operand_uses label (Number n) = false
operand_uses label (Local n) = false
operand_uses label (Global n) = false

abbrev pub item_uses : ℕ → Item → Bool
item_uses label (Instruction function indirect operand) = operand_uses label operand
item_uses label (LabelWord l) = l == label
item_uses label (SetGlobal number l) = l == label
item_uses label (SetLabel l) = false
item_uses label (Byte b) = false
item_uses label (Word w) = false
item_uses label (Frame n) = false
item_uses label End = false

-- an item of these sets the label
abbrev pub item_sets : ℕ → Item → Bool
item_sets label (SetLabel l) = l == label
item_sets label (Instruction function indirect operand) = false
item_sets label (LabelWord l) = false
item_sets label (SetGlobal number l) = false
item_sets label (Byte b) = false
item_sets label (Word w) = false
item_sets label (Frame n) = false
item_sets label End = false

abbrev pub sets : ℕ → List Item → Bool
sets label [] = false
sets label (item ∷ rest) = item_sets label item || sets label rest

-- the label that an item uses, if it uses one, is set by one of these
abbrev pub operand_is_set : List Item → Operand → Bool
operand_is_set items (Label l) = sets l items
operand_is_set items (Number n) = true
operand_is_set items (Local n) = true
operand_is_set items (Global n) = true

abbrev pub use_is_set : List Item → Item → Bool
use_is_set items (Instruction function indirect operand) = operand_is_set items operand
use_is_set items (LabelWord l) = sets l items
use_is_set items (SetGlobal number l) = sets l items
use_is_set items (SetLabel l) = true
use_is_set items (Byte b) = true
use_is_set items (Word w) = true
use_is_set items (Frame n) = true
use_is_set items End = true

-- an item of these gives the largest frame
abbrev pub is_frame : Item → Bool
is_frame (Frame n) = true
is_frame (Instruction function indirect operand) = false
is_frame (SetLabel l) = false
is_frame (Byte b) = false
is_frame (Word w) = false
is_frame (LabelWord l) = false
is_frame (SetGlobal number l) = false
is_frame End = false

abbrev pub gives_frame : List Item → Bool
gives_frame [] = false
gives_frame (item ∷ rest) = is_frame item || gives_frame rest

-- the numbers of an item are in their ranges: words of 32 bits, bytes, labels, globals and frames
abbrev pub IsLabel : ℕ → Type 0
IsLabel label = (1 ≤ label) × (label ≤ INTCODE_LABEL)

abbrev pub IsOperand : Operand → Type 0
IsOperand (Number n) = FitsSigned w32 n
IsOperand (Local n) = FitsSigned w32 n
IsOperand (Global n) = FitsSigned w32 n
IsOperand (Label l) = IsLabel l

abbrev pub IsItem : Item → Type 0
IsItem (Instruction function indirect operand) = IsOperand operand
IsItem (SetLabel l) = IsLabel l
IsItem (Byte b) = b < 256
IsItem (Word w) = FitsSigned w32 w
IsItem (LabelWord l) = IsLabel l
IsItem (SetGlobal number l) = (number ≤ GLOBAL_NUMBER) × IsLabel l
IsItem (Frame n) = (FRAME_WORDS_LEAST ≤ n) × (n ≤ FRAME_WORDS)
IsItem End = ⊤

abbrev pub AreItems : List Item → Type 0
AreItems items = (k : ℕ) (item : Item) → slice_get items k ≡ Some item → IsItem item

-- What each segment keeps.
pub record IsSegment (items : List Item) : Type 0 where
  -- the end is last, and nowhere else
  pub ends : (k : ℕ) → slice_get items k ≡ Some End → suc k ≡ length items
  pub ended : slice_get items (length items - 1) ≡ Some End
  -- no label is set twice
  pub set_once : (j k label : ℕ) → slice_get items j ≡ Some (SetLabel label) → slice_get items k ≡ Some (SetLabel label) → j ≡ k
  -- each label that is used is set
  pub used_set : (k label : ℕ) (item : Item) → slice_get items k ≡ Some item → IsTrue (item_uses label item) → IsTrue (sets label items)
  -- the largest frame is given once at most
  pub one_frame : (j k m n : ℕ) → slice_get items j ≡ Some (Frame m) → slice_get items k ≡ Some (Frame n) → j ≡ k
  -- each number is in its range
  pub in_range : AreItems items
  pub counted : length items ≤ INTCODE_ITEMS

-- the largest frame that a segment gives, or the largest that there is
abbrev pub frame_of : List Item → ℕ
frame_of [] = FRAME_WORDS
frame_of (Frame n ∷ rest) = n
frame_of (item ∷ rest) = frame_of rest
