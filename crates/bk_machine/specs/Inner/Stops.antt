-- Why steps on the words that are kept stop.
use Rattle.std.specs.Prelude.{◌≡◌, ℕ, ◌+◌, ◌<◌, List}
use Rattle.bk_base.specs.declared.run_end.End.TheVariants.{StoreLimit}
use Rattle.bk_machine.specs.Runs.{Devices, Paused, Went, BlamesBefore}
use Rattle.bk_machine.specs.Step.{Ends, step}
use Rattle.bk_machine.specs.Kept.{padded}
use Rattle.bk_machine.specs.declared.registers.Registers.{Registers}
use Rattle.bk_machine.specs.declared.run.Stop.{Stop}
use Rattle.bk_machine.specs.declared.run.Stop.TheVariants as stop

-- some steps were done, and the next leads outside the words that are kept
pub record Beyond (Holds : List ℕ → Type 0) (left n count : ℕ) (kept : List ℕ) (r : Registers) (kept' : List ℕ) (r' : Registers) (old new : Devices) : Type 0 where
  pub done : ℕ
  pub parts : done + left ≡ n
  pub some : 0 < left
  pub paused : Paused Holds done (padded count kept) r (padded count kept') r' old new
  pub outside : step kept' r' ≡ Ends StoreLimit

abbrev pub Stops : (List ℕ → Type 0) → Stop → ℕ → ℕ → List ℕ → Registers → List ℕ → Registers → Devices → Devices → Type 0
Stops Holds (stop.Ends e) n count kept r kept' r' old new = Went Holds e n (padded count kept) r (padded count kept') r' old new
Stops Holds (stop.Beyond left) n count kept r kept' r' old new = Beyond Holds left n count kept r kept' r' old new

abbrev pub BlamesStop : Stop → (reads reads' writes' : ℕ) → Type 0
BlamesStop (stop.Ends e) reads reads' writes' = BlamesBefore e reads reads' writes'
BlamesStop (stop.Beyond left) reads reads' writes' = reads' ≡ reads
