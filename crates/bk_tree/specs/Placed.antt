-- A fault with the position of its symbol, and the same fault with a line alone.
use Rattle.bk_base.specs.declared.refused.Refused.{Refused}
use Rattle.bk_base.specs.declared.refused.Refused.TheVariants.{Fault, Memory, Device}
use Rattle.bk_base.specs.declared.source_fault.SourceFault.{SourceFault}
use Rattle.bk_tree.specs.declared.placed.PlacedFault.{PlacedFault}
use Rattle.bk_tree.specs.Position.{line_in}

abbrev pub fault_on_line : PlacedFault → SourceFault
fault_on_line f = record { line = line_in f.at; kind = f.kind }

abbrev pub on_line : Refused PlacedFault → Refused SourceFault
on_line (Fault f) = Fault (fault_on_line f)
on_line Memory = Memory
on_line Device = Device
