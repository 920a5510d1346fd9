-- The line that reports each fault of the kit.
use Rattle.std.specs.Prelude.{ℕ, List, [], ◌∷◌, ◌++◌, codes, decimal}
use Rattle.bk_base.specs.SourceFault.{source_text}
use Rattle.bk_base.specs.OcodeFault.{ocode_text}
use Rattle.bk_base.specs.IntcodeFault.{intcode_text}
use Rattle.bk_filters.specs.declared.kit_fault.KitFault.{KitFault}
use Rattle.bk_filters.specs.declared.kit_fault.KitFault.TheVariants.{Source, Ocode, Intcode, TooSmall, NoStart, Read, Write, Memory}

abbrev pub fault_text : KitFault → List ℕ
fault_text (Source fault) = codes "line " ++ decimal fault.line ++ codes ": " ++ source_text fault.kind
fault_text (Ocode section fault) =
    codes "section " ++ decimal section ++ codes ", statement " ++ decimal fault.statement ++ codes ": " ++ ocode_text fault.kind
fault_text (Intcode segment fault) =
    codes "segment " ++ decimal segment ++ codes ", item " ++ decimal fault.item ++ codes ": " ++ intcode_text fault.kind
fault_text TooSmall = codes "store too small"
fault_text NoStart = codes "no START"
fault_text Read = codes "read fault"
fault_text Write = codes "write fault"
fault_text Memory = codes "no memory"

-- a text and the end of its line
abbrev pub line_of : List ℕ → List ℕ
line_of text = text ++ 10 ∷ []
