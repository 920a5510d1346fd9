-- The exit status for each answer, and the line that reports it.
use Rattle.std.specs.Prelude.{ℕ, ℤ, pos, negsuc, nat_lt, List, Option, None, Some, Result, Ok, Err, codes, if◌then◌else◌}
use Rattle.bk_base.specs.declared.run_end.End.{End}
use Rattle.bk_base.specs.declared.run_end.End.TheVariants.{Status, DivideByZero, StoreLimit, StepLimit, BadOperation, ReadFault, WriteFault}
use Rattle.bk_filters.specs.declared.kit_fault.KitFault.{KitFault}
use Rattle.bk_filters.specs.declared.kit_fault.KitFault.TheVariants.{Source, Ocode, Intcode, TooSmall, NoStart, Read, Write, Memory}
use Rattle.bk_filters.specs.FaultLine.{fault_text, line_of}
use Rattle.bk_kit.specs.declared.command_line.LineFault.{LineFault}
use Rattle.bk_kit.specs.declared.command_line.LineFault.TheVariants as line
use Rattle.bk_kit.specs.declared.command_line.LineFault.TheVariants.{Help, Bad}

-- STOP of 0 to 99 gives that number, STOP of any other gives 100
abbrev pub stop_status : ℤ → ℕ
stop_status (pos n) = if nat_lt n 100 then n else 100
stop_status (negsuc n) = 100

abbrev pub end_status : End → ℕ
end_status (Status v) = stop_status v
end_status DivideByZero = 104
end_status StoreLimit = 105
end_status StepLimit = 106
end_status BadOperation = 107
end_status ReadFault = 109
end_status WriteFault = 110

-- the line that reports it, if there is one
abbrev pub end_line : End → Option (List ℕ)
end_line (Status v) = None
end_line DivideByZero = Some (line_of (codes "division by zero"))
end_line StoreLimit = Some (line_of (codes "store limit"))
end_line StepLimit = Some (line_of (codes "step limit"))
end_line BadOperation = Some (line_of (codes "bad operation"))
end_line ReadFault = Some (line_of (codes "read fault"))
end_line WriteFault = Some (line_of (codes "write fault"))

abbrev pub fault_status : KitFault → ℕ
fault_status (Source fault) = 101
fault_status (Ocode section fault) = 102
fault_status (Intcode segment fault) = 103
fault_status TooSmall = 105
fault_status NoStart = 108
fault_status Read = 109
fault_status Write = 110
fault_status Memory = 111

-- of a run
abbrev pub run_status : Result End KitFault → ℕ
run_status (Ok end) = end_status end
run_status (Err fault) = fault_status fault

abbrev pub run_line : Result End KitFault → Option (List ℕ)
run_line (Ok end) = end_line end
run_line (Err fault) = Some (line_of (fault_text fault))

-- of a call that only writes
abbrev pub done_status : {T : Type 0} → Result T KitFault → ℕ
done_status (Ok done) = 0
done_status (Err fault) = fault_status fault

abbrev pub done_line : {T : Type 0} → Result T KitFault → Option (List ℕ)
done_line (Ok done) = None
done_line (Err fault) = Some (line_of (fault_text fault))

-- of a command line that gives no order; help is elsewhere
abbrev pub refusal_status : LineFault → ℕ
refusal_status (Help help) = 0
refusal_status Bad = 112
refusal_status line.Memory = 111

abbrev pub refusal_line : LineFault → Option (List ℕ)
refusal_line (Help help) = None
refusal_line Bad = Some (line_of (codes "bad command line"))
refusal_line line.Memory = Some (line_of (codes "no memory"))
