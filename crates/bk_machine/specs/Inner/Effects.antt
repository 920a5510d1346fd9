-- What the code's answers say: that to a step, nothing where the step leads outside the store, and that of the devices.
use Rattle.std.specs.Prelude.{◌≡◌, ◌≢◌, ℕ, List, Option, Some, None, Result, Ok, Err, ⊤}
use Rattle.bk_base.specs.declared.run_end.End.{End}
use Rattle.bk_base.specs.declared.run_end.End.TheVariants.{StoreLimit, ReadFault, WriteFault}
use Rattle.bk_machine.specs.Runs.{IsOwn}
use Rattle.bk_machine.specs.Step.{Turn, Goes, Outputs, Asks, Ends}
use Rattle.bk_machine.specs.declared.run.Answer.{Answer}
use Rattle.bk_machine.specs.declared.run.Answer.TheVariants as answer
use Rattle.bk_machine.specs.declared.registers.Registers.{Registers}
use Rattle.bk_machine.specs.declared.step.Effect.{Effect}
use Rattle.bk_machine.specs.declared.step.Effect.TheVariants as effect

abbrev pub turn_of : Option Effect → List ℕ → Registers → Turn
turn_of None store r = Ends StoreLimit
turn_of (Some effect.Goes) store r = Goes store r
turn_of (Some (effect.Outputs what)) store r = Outputs what store r
turn_of (Some effect.Asks) store r = Asks store r
turn_of (Some (effect.Ends e)) store r = Ends e

-- if the step ends, it ends of itself, and not where the store does
abbrev pub OwnEnd : Option Effect → Type 0
OwnEnd None = ⊤
OwnEnd (Some effect.Goes) = ⊤
OwnEnd (Some (effect.Outputs what)) = ⊤
OwnEnd (Some effect.Asks) = ⊤
OwnEnd (Some (effect.Ends e)) = IsOwn e × (e ≢ StoreLimit)

-- the word for the byte that a step asks for, or how the run ends
abbrev pub byte_or_end : Answer → Result ℕ End
byte_or_end (answer.Word word) = Ok word
byte_or_end answer.ReadFault = Err ReadFault
byte_or_end answer.WriteFault = Err WriteFault

-- what a step that leads outside the store leaves as it was
abbrev pub Stays : Option Effect → List ℕ → Registers → List ℕ → Registers → Type 0
Stays None store r store' r' = (store' ≡ store) × (r' ≡ r)
Stays (Some effect) store r store' r' = ⊤
