-- What a machine shows.
use Rattle.std.specs.Prelude.{ℕ, List, Option}
use Rattle.bk_base.specs.declared.run_end.End.{End}
use Rattle.bk_machine.specs.declared.registers.Registers.{Registers}
use Rattle.bk_machine.specs.Kept.{words_on}
use Rattle.bk_machine.specs.declared.machine.Machine.{Machine}
use Rattle.bk_machine.specs.declared.machine.Sizes.{Sizes}

-- the words of its store
abbrev pub store_of : Machine → List ℕ
store_of machine = words_on machine.board

abbrev pub registers_of : Machine → Registers
registers_of machine = machine.board.registers

-- the end of its runs so far, if it is one that is given again
abbrev pub end_of : Machine → Option End
end_of machine = machine.end

-- what its segments need
abbrev pub sizes_of : Machine → Sizes
sizes_of machine = machine.sizes

-- the length of its store
abbrev pub words_of : Machine → ℕ
words_of machine = machine.board.words
