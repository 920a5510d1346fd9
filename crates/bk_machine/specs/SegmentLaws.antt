-- Laws of segments: that a list is one has one proof at most, so the items of each value of the type are one.
use Rattle.std.proofs.Common.{List}
use mathlib.Core.Logic.{∥∥₁_elim}
use Rattle.std.proofs.Props.{props}
use mathlib.Core.Sum.{⊎_set}
use Rattle.std.proofs.Math.Nat.{ℕ_set}
use Rattle.std.proofs.Math.IntN.{ℤ_set}
use Rattle.std.proofs.Math.Bool.{Bool-set}
use Rattle.bk_machine.specs.declared.item.Function.{Function}
use Rattle.bk_machine.specs.declared.item.Operand.{Operand}
use Rattle.bk_machine.specs.declared.item.Operand.TheVariants.{Number, Local, Global, Label}
use Rattle.bk_machine.specs.declared.item.Item.{Item}
use Rattle.bk_machine.specs.declared.item.Item.TheVariants.{Instruction, SetLabel, Byte, Word, LabelWord, SetGlobal, Frame, End}
use Rattle.bk_machine.specs.Segment.{IsSegment, IsItem, IsOperand}
use Rattle.bk_machine.specs.declared.segment.Intcode.{Intcode}
use Rattle.bk_machine.specs.SegmentItems.{items_of}

Function-set : IsSet Function
Function-set = hlevel (⊎_set, props)

Operand-set : IsSet Operand
Operand-set = hlevel (⊎_set, ℕ_set, ℤ_set, props)

Item-set : IsSet Item
Item-set = hlevel (⊎_set, ℕ_set, ℤ_set, Bool-set, Function-set, Operand-set, props)

IsOperand-prop : (operand : Operand) → IsProp (IsOperand operand)
IsOperand-prop (Number n) = hlevel props
IsOperand-prop (Local n) = hlevel props
IsOperand-prop (Global n) = hlevel props
IsOperand-prop (Label l) = hlevel props

IsItem-prop : (item : Item) → IsProp (IsItem item)
IsItem-prop (Instruction function indirect operand) = IsOperand-prop operand
IsItem-prop (SetLabel l) = hlevel props
IsItem-prop (Byte b) = hlevel props
IsItem-prop (Word w) = hlevel props
IsItem-prop (LabelWord l) = hlevel props
IsItem-prop (SetGlobal number l) = hlevel props
IsItem-prop (Frame n) = hlevel props
IsItem-prop End = hlevel props

pub IsSegment-prop : (items : List Item) → IsProp (IsSegment items)
IsSegment-prop items = hlevel (Item-set, IsItem-prop, ℕ_set, Bool-set, props)

-- the items of each segment are one
pub segment_whole : (segment : Intcode) → IsSegment (items_of segment)
segment_whole segment = ∥∥₁_elim segment.whole (IsSegment-prop (items_of segment)) (λ whole. whole)
