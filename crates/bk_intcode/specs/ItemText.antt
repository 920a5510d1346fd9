-- The one word that means an item.
use Rattle.std.specs.Prelude.{ℕ, pos, List, [], ◌∷◌, ◌++◌, Bool, if◌then◌else◌}
use Rattle.bk_base.specs.Decimal.{spelling}
use Rattle.bk_machine.specs.declared.item.Function.{Function}
use Rattle.bk_machine.specs.declared.item.Function.TheVariants.{Load, Store, Add, Jump, JumpTrue, JumpFalse, Call, Operate}
use Rattle.bk_machine.specs.declared.item.Operand.{Operand}
use Rattle.bk_machine.specs.declared.item.Operand.TheVariants.{Number, Local, Global, Label}
use Rattle.bk_machine.specs.declared.item.Item.{Item}
use Rattle.bk_machine.specs.declared.item.Item.TheVariants.{Instruction, SetLabel, Byte, Word, LabelWord, SetGlobal, Frame, End}

-- the letters L, S, A, J, T, F, K and X
abbrev pub letter : Function → ℕ
letter Load = 76
letter Store = 83
letter Add = 65
letter Jump = 74
letter JumpTrue = 84
letter JumpFalse = 70
letter Call = 75
letter Operate = 88

-- a number, after `P` where it counts from P on and after `G` where it counts from G on, or `L` and the number of a label
abbrev pub operand_text : Operand → List ℕ
operand_text (Number n) = spelling n
operand_text (Local n) = 80 ∷ spelling n
operand_text (Global n) = 71 ∷ spelling n
operand_text (Label l) = 76 ∷ spelling (pos l)

-- `I` where the instruction is indirect
abbrev pub indirect_text : Bool → List ℕ
indirect_text indirect = if indirect then 73 ∷ [] else []

abbrev pub item_text : Item → List ℕ
-- as `LIG4` and `JL7`
item_text (Instruction function indirect operand) = letter function ∷ indirect_text indirect ++ operand_text operand
-- as `7`
item_text (SetLabel l) = spelling (pos l)
-- as `C65`
item_text (Byte b) = 67 ∷ spelling (pos b)
-- as `D-1`
item_text (Word w) = 68 ∷ spelling w
-- as `DL7`
item_text (LabelWord l) = 68 ∷ 76 ∷ spelling (pos l)
-- as `G1L7`
item_text (SetGlobal number l) = 71 ∷ spelling (pos number) ++ 76 ∷ spelling (pos l)
-- as `Q16`
item_text (Frame n) = 81 ∷ spelling (pos n)
-- `Z`
item_text End = 90 ∷ []
