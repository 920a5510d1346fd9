-- What a word of a text means: an item, or a fault that it has by itself.
use Rattle.std.specs.Prelude.{◌≡◌, ◌≢◌, ℕ, pos, ◌<◌, ◌^◌, ◌==◌, nat_le, Bool, false, IsTrue, ◌||◌, ◌&&◌, List, ◌∷◌, slice_index}
use Rattle.bk_base.specs.Decimal.{spelling}
use Rattle.bk_base.specs.declared.intcode_fault.IntcodeKind.{IntcodeKind}
use Rattle.bk_base.specs.declared.intcode_fault.IntcodeKind.TheVariants.{BadLetter, BadNumber, ByteOver255, LabelNotSet, LabelSetTwice, Truncated, TooLong, FrameGivenTwice}
use Rattle.bk_machine.specs.declared.item.Item.{Item}
use Rattle.bk_intcode.specs.ItemText.{item_text}
use Rattle.bk_machine.specs.Segment.{IsItem}

-- the word means the item
pub record Means (word : List ℕ) (item : Item) : Type 0 where
  pub text : item_text item ≡ word
  pub in_range : IsItem item

-- the word means no item
abbrev pub MeansNothing : List ℕ → Type 0
MeansNothing word = (item : Item) → IsItem item → item_text item ≢ word

-- a digit
abbrev pub is_digit : ℕ → Bool
is_digit byte = nat_le 48 byte && nat_le byte 57

-- the letters L, S, A, J, T, F, K and X
abbrev pub is_function : ℕ → Bool
is_function byte =
    byte == 76 || byte == 83 || byte == 65 || byte == 74 || byte == 84 || byte == 70 || byte == 75 || byte == 88

-- an item begins so: with a digit, the letter of a function, C, D, G, Q or Z
abbrev pub begins_item : ℕ → Bool
begins_item byte = is_digit byte || is_function byte || byte == 67 || byte == 68 || byte == 71 || byte == 81 || byte == 90

-- a byte that is too large: `C` and a number from 256 to 2147483647
abbrev pub IsByteOver255 : List ℕ → Type 0
IsByteOver255 word = (n : ℕ) × (255 < n) × (n < 2 ^ 31) × (word ≡ 67 ∷ spelling (pos n))

-- The fault that a word has by itself. A word that means no item has one, by its first byte.
abbrev pub WordFault : List ℕ → IntcodeKind → Type 0
WordFault word BadLetter = begins_item (slice_index word 0) ≡ false
WordFault word BadNumber = IsTrue (begins_item (slice_index word 0)) × MeansNothing word × (IsByteOver255 word → ⊥)
WordFault word ByteOver255 = IsByteOver255 word
WordFault word LabelNotSet = ⊥
WordFault word LabelSetTwice = ⊥
WordFault word Truncated = ⊥
WordFault word TooLong = ⊥
WordFault word FrameGivenTwice = ⊥
