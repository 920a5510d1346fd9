-- No item's word has more than 16 bytes.
use Rattle.bk_intcode.proofs.Terms.{◌≡◌, ℕ, ◌<◌, ◌≤◌, ◌^◌, Bool, true, false, pos, List, ◌∷◌, length, get_or, arith, length-append, length-decimal-le, spelling, BadNumber, Operand, Number, Local, Global, Label, Item, Instruction, SetLabel, Byte, Word, LabelWord, SetGlobal, Frame, End, indirect_text, operand_text, item_text, IsOperand, IsItem, length-global, length-word, WordFault, begins_item}

length-natural : (n : ℕ) → n < 2 ^ 31 → length (spelling (pos n)) ≤ 10
length-natural n small = length-decimal-le 10 n (omega arith) (omega arith) (omega arith)

length-operand : (o : Operand) → IsOperand o → length (operand_text o) ≤ 12
length-operand (Number n) fits = omega (arith, length-word n fits)
length-operand (Local n) fits = omega (arith, length-word n fits)
length-operand (Global n) fits = omega (arith, length-word n fits)
length-operand (Label l) fits = omega (arith, length-natural l (omega (arith, fits.0, fits.1)))

length-indirect : (i : Bool) → length (indirect_text i) ≤ 1
length-indirect true = omega arith
length-indirect false = omega arith

pub length-item : (item : Item) → IsItem item → length (item_text item) ≤ 16
length-item (Instruction f i o) fits = omega (arith, length-append (indirect_text i) (operand_text o), length-indirect i, length-operand o fits)
length-item (SetLabel l) fits = omega (arith, length-natural l (omega (arith, fits.0, fits.1)))
length-item (Byte b) fits = omega (arith, length-natural b (omega arith))
length-item (Word w) fits = omega (arith, length-word w fits)
length-item (LabelWord l) fits = omega (arith, length-natural l (omega (arith, fits.0, fits.1)))
length-item (SetGlobal n l) fits = omega (arith, length-append (spelling (pos n)) (76 ∷ spelling (pos l)), length-global n fits.0, length-natural l (omega (arith, fits.1.0, fits.1.1)))
length-item (Frame n) fits = omega (arith, length-natural n (omega (arith, fits.0, fits.1)))
length-item End fits = omega arith

-- a longer word has the fault of its first byte
pub long_fault : (word : List ℕ) → 16 < length word → begins_item (get_or word 0 0) ≡ true → WordFault word BadNumber
long_fault word long begins = grind (arith, length-item, length-natural)
